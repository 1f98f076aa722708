-- What is kept of a session, and which session it is. This project's own words.
use Rattle.std.specs.Prelude.{ℕ, ◌≡◌, ◌≤◌, ◌<◌, ◌+◌, Bool, true, false, List, length, take, Option}
use Rattle.std.specs.Prelude.{[], ◌∷◌, map, ◌++◌, ◌^◌}
use Rattle.group_walk.specs.Walks.{kinds_named}
use Rattle.group_walk.specs.declared.walker.MoveKind.{MoveKind as kind_type}
use Rattle.gdb_packets.specs.declared.resumptions.Resumption.{Resumption}
use Rattle.debug_session.specs.Positions.{Position, all_moments, first_kind, position_after}
use Rattle.debug_session.specs.Recordings.{Recording}
use Rattle.debug_session.specs.Sessions.{Session}
use Rattle.debug_session.specs.Resuming.{Answered}
use Rattle.debug_session.specs.Connections.{reply_text}
use Rattle.recorded_walk.specs.Playbacks.{Heard, IsStartOf, Played, Stands}
use Rattle.debug_client.specs.Births.{BirthTables, HasNoted, KnowsBirths, has_processes}
use Rattle.debug_client.specs.Births.{knows_named}
use Rattle.debug_client.specs.Clients.{ClientView, session_of}
use Rattle.debug_hits.specs.Kept.{Kept}

-- The run that is walked; who was born at the moments of its history up to the furthest that was
-- come
-- to; the client; what is kept of its watchpoints before a move; the names and the bytes of the
-- files that were run; and whether a call has failed.
pub record SessionView : Type 0 where
  pub playback : Played
  pub births : BirthTables
  pub furthest : ℕ
  pub client : ClientView
  pub watched : List Kept
  pub names : List (List ℕ)
  pub files : List (List ℕ)
  pub failed : Bool

-- ---- the session

-- what it is about
abbrev pub recording_of : SessionView → Recording
recording_of k = record {
  names = k.names;
  files = k.files;
  limit = k.playback.config.rounds;
  entries = k.playback.entries;
}

-- where it stands, with the start of its history
abbrev pub here : SessionView → (start : Position) → Position
here k start = position_after k.playback.moves start

-- the session at a position
abbrev pub session_at : SessionView → Position → Session
session_at k at = session_of k.client (recording_of k) at

-- ---- what it keeps

-- Who was born is known of the moments up to the furthest; of all, where the tables are whole.
pub record KnowsUpTo (k : SessionView) (start : Position) : Type 0 where
  pub known : KnowsBirths k.births (take (k.furthest + 1) (all_moments start))
  pub few : k.furthest < length (all_moments start)
  pub whole : k.births.is_whole ≡ true → k.furthest + 1 ≡ length (all_moments start)

-- As long as nothing has failed.
pub record IsSessionReady (k : SessionView) : Type 0 where
  pub running : k.playback.failed ≡ false
  pub stands : Stands k.playback
  pub behind : k.playback.moves ≤ k.furthest
  pub reach : k.furthest ≤ k.playback.reached
  pub births : (start : Position) → IsStartOf k.playback start → KnowsUpTo k start
  pub there : HasNoted k.births k.playback.walk.state
  pub told : has_processes k.births k.client.told ≡ true
  pub images : k.births.images ≡ length k.names
  pub names : length k.names < 2 ^ 32

-- ---- calls

-- the same run, whose files are the same
pub record IsSameRun (old new : SessionView) : Type 0 where
  pub images : new.playback.images ≡ old.playback.images
  pub config : new.playback.config ≡ old.playback.config
  pub entries : new.playback.entries ≡ old.playback.entries
  pub names : new.names ≡ old.names
  pub files : new.files ≡ old.files

-- and the same client
pub record IsSame (old new : SessionView) : Type 0 where
  pub run : IsSameRun old new
  pub client : new.client ≡ old.client

-- Threads that these resumptions name and that were known are known.
abbrev pub StillKnows : (old new : SessionView) → Type 0
StillKnows old new = (rs : List Resumption) → knows_named old.births rs ≡ true
    → knows_named new.births rs ≡ true

-- It has moved on by this move, or stands where no move is next.
pub record Advances (old new : SessionView) (made : Option kind_type) (start : Position) : Type 0
  where
    pub first : first_kind (here old start).future ≡ kinds_named made
    pub heard : Heard new.playback (here old start).moment.world (here new start).moment.world

-- The session is one of this run, that was asked at a position of its own, wherever it is walked by
-- now.
pub record IsAsked (k : SessionView) (start : Position) (s : Session) : Type 0 where
  pub is : s ≡ session_at k s.position
  pub moments : all_moments s.position ≡ all_moments start

-- the session that it is
pub record IsSessionOf (k : SessionView) (s : Session) : Type 0 where
  pub running : k.failed ≡ false
  pub start : Position
  pub start_is : IsStartOf k.playback start
  pub is : s ≡ session_at k (here k start)

-- ---- answers

-- For the session that it is these answers come more, and it is the one behind them.
abbrev pub HasAnswered : (old new : SessionView) → (before after : List (List ℕ))
    → (said : Session → Answered) → Type 0
HasAnswered old new before after said = (s : Session) → IsSessionOf old s
    → IsSessionOf new (said s).0 × (after ≡ before ++ map reply_text (said s).1)

-- This text comes more.
abbrev pub HasSaid : SessionView → (before after : List (List ℕ)) → (text : Session → List ℕ)
    → Type 0
HasSaid k before after text = (s : Session) → IsSessionOf k s → after ≡ before ++ text s ∷ []
