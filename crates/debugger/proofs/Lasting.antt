-- What stays the same run and the same client from one call to another.
use Rattle.std.proofs.Common.{◌≡◌, ℕ, ◌+◌, ◌∙◌, List, sym, ap, subst, refl, true, false, ◌∷◌, []}
use Rattle.std.proofs.Common.{Option, Some, None}
use Rattle.std.specs.Prelude.{◌&&◌, Bool, IfSome, is_some, length, nat_lt, not}
use Rattle.dos_world.specs.declared.Config.{Config}
use Rattle.elf_image.specs.Image.{Image}
use Rattle.group_moves.specs.Moves.{MoveKind}
use Rattle.group_walk.specs.Walks.{kind_named, kinds_named}
use Rattle.group_walk.specs.declared.walker.MoveKind.{MoveKind as kind_type}
use Rattle.gdb_packets.specs.declared.ids.Which.TheVariants.{Only}
use Rattle.gdb_packets.specs.declared.ids.ThreadId.TheVariants.{ThreadAlone}
use Rattle.gdb_packets.specs.declared.resumptions.Action.TheVariants.{Continue}
use Rattle.gdb_packets.specs.declared.resumptions.Resumption.{Resumption}
use Rattle.debug_session.specs.Goals.{rewound}
use Rattle.debug_session.specs.Positions.{Position, all_moments, moved_on, position_after}
use Rattle.debug_session.specs.Recordings.{LogEntry, Recording}
use Rattle.debug_session.specs.Sessions.{Session, is_among}
use Rattle.recorded_walk.specs.Playbacks.{IsStart, IsStartOf, Played, moves_made}
use Rattle.debug_client.specs.Births.{BirthTables, has_home, knows_named}
use Rattle.debug_client.specs.Clients.{ClientView, session_of}
use Rattle.std.proofs.lemmas.Bool.{and_parts}
use Rattle.debugger.specs.Standing.{IsAsked, IsSame, IsSameRun, StillKnows, SessionView}
use Rattle.debugger.specs.Standing.{IsSessionOf, here, recording_of, session_at}
use Rattle.debugger.proofs.Pathway.{after_more, all_after, rewound_after}

abbrev recording_by : (names files : List (List ℕ)) → ℕ → List LogEntry → Recording
recording_by names files limit entries =
    record { names = names; files = files; limit = limit; entries = entries }

module _ (a b : SessionView) (same : IsSameRun a b) where
  pub recording_same : recording_of b ≡ recording_of a
  recording_same =
      ap (λ (x : List (List ℕ)). recording_by x b.files b.playback.config.rounds b.playback.entries)
      same.names
      ∙ ap (λ (x : List (List ℕ)). recording_by a.names x b.playback.config.rounds
      b.playback.entries) same.files
      ∙ ap (λ (x : Config). recording_by a.names a.files x.rounds b.playback.entries) same.config
      ∙ ap (λ (x : List LogEntry). recording_by a.names a.files a.playback.config.rounds x)
      same.entries

  pub start_on : (start : Position) → IsStartOf a.playback start → IsStartOf b.playback start
  start_on start is =
      subst (λ (x : List LogEntry). IsStart b.playback.images b.playback.config x start)
      (sym same.entries)
      (subst (λ (x : Config). IsStart b.playback.images x a.playback.entries start)
      (sym same.config)
      (subst (λ (x : List Image). IsStart x a.playback.config a.playback.entries start)
      (sym same.images) is))

module _ (a b : SessionView) (same : IsSame a b) where
  pub session_same : (at : Position) → session_at b at ≡ session_at a at
  session_same at =
      ap (λ (c : ClientView). session_of c (recording_of b) at) same.client
      ∙ ap (λ (r : Recording). session_of a.client r at) (recording_same a b same.run)

  pub asked_on : (start : Position) (s : Session) → IsAsked a start s → IsAsked b start s
  asked_on start s asked = record {
    is = asked.is ∙ sym (session_same s.position);
    moments = asked.moments;
  }

pub same_here : (a : SessionView) → IsSame a a
same_here a = record {
  run = record { images = refl; config = refl; entries = refl; names = refl; files = refl };
  client = refl;
}

pub same_on : (a b c : SessionView) → IsSame a b → IsSame b c → IsSame a c
same_on a b c h k = record {
  run = record {
    images = k.run.images ∙ h.run.images;
    config = k.run.config ∙ h.run.config;
    entries = k.run.entries ∙ h.run.entries;
    names = k.run.names ∙ h.run.names;
    files = k.run.files ∙ h.run.files;
  };
  client = k.client ∙ h.client;
}

-- a thread whose home was known
pub home_on : (a b : SessionView) → StillKnows a b → (t : ℕ) → has_home a.births t ≡ true
    → has_home b.births t ≡ true
home_on a b keeps t known =
    (and_parts (has_home b.births t) true (keeps
    (record { action = Continue; threads = ThreadAlone (Only t) } ∷ [])
    (ap (λ (x : Bool). x && true) known))).0

-- ---- the session that is shown

module _ (k : SessionView) (s : Session) (shows : IsSessionOf k s) where
  pub shown_at : s.position ≡ here k shows.start
  shown_at = ap (λ (x : Session). x.position) shows.is

  pub shown_asked : IsAsked k shows.start s
  shown_asked = record {
    is = shows.is ∙ ap (session_at k) (sym shown_at);
    moments = ap all_moments shown_at ∙ all_after k.playback.moves shows.start;
  }

-- nothing is behind a start
pub start_past : (p : Played) (start : Position) → IsStartOf p start → start.past ≡ []
start_past p start is = ap (λ (at : Position). at.past) is.is

pub start_rewound : (p : Played) (start : Position) → IsStartOf p start → rewound start ≡ start
start_rewound p start is = subst (λ (at : Position). rewound at ≡ at) (sym is.is) refl

pub here_rewound : (k : SessionView) (start : Position) → IsStartOf k.playback start
    → rewound (here k start) ≡ start
here_rewound k start is =
    rewound_after k.playback.moves start ∙ start_rewound k.playback start is

-- whether a child is told
pub child_told : (v k : SessionView) (is : v ≡ k) (start : Position) (s : Session)
    → IsAsked k start s → (child : ℕ)
    → (s.is_told_forks && not (is_among child s.told) && nat_lt (length s.told) 256)
    ≡ (v.client.is_told_forks && not (is_among child v.client.told)
    && nat_lt (length v.client.told) 256)
child_told v k is start s asked child =
    ap (λ (x : Session). x.is_told_forks && not (is_among child x.told)
    && nat_lt (length x.told) 256) asked.is
    ∙ ap (λ (x : SessionView). x.client.is_told_forks && not (is_among child x.client.told)
    && nat_lt (length x.client.told) 256) (sym is)

-- ---- what a call has moved

-- A move was made.
pub record IsMade (made : Option kind_type) : Type 0 where
  pub kind : MoveKind
  pub kind_is : kinds_named made ≡ Some kind
  pub one : moves_made made ≡ 1

pub some_made : (made : Option kind_type) → is_some made ≡ true → IsMade made
some_made None is = cc
some_made (Some kind) is = record { kind = kind_named kind; kind_is = refl; one = refl }

pub none_made : (made : Option kind_type) → is_some made ≡ false → kinds_named made ≡ None
none_made None is = refl
none_made (Some kind) is = cc

pub here_on : (k new : SessionView) (start : Position)
    → new.playback.moves ≡ k.playback.moves + 1 → here new start ≡ moved_on (here k start)
here_on k new start is =
    ap (λ n. position_after n start) is ∙ after_more k.playback.moves start

pub here_same : (k new : SessionView) (start : Position)
    → new.playback.moves ≡ k.playback.moves → here new start ≡ here k start
here_same k new start is = ap (λ n. position_after n start) is

-- what the client has of the session that was asked
module _ (v k : SessionView) (is : v ≡ k) (start : Position) (s : Session)
    (asked : IsAsked k start s) where
  pub goal_asked : s.goal ≡ v.client.goal
  goal_asked =
      ap (λ (x : Session). x.goal) asked.is ∙ ap (λ (x : SessionView). x.client.goal) (sym is)

  pub owed_asked : s.owed ≡ v.client.owed
  owed_asked =
      ap (λ (x : Session). x.owed) asked.is ∙ ap (λ (x : SessionView). x.client.owed) (sym is)

pub known_on : (a b : SessionView) → StillKnows a b → (o : Option ℕ)
    → IfSome o (λ t. has_home a.births t ≡ true) → IfSome o (λ t. has_home b.births t ≡ true)
known_on a b keeps None known = tt
known_on a b keeps (Some t) known = home_on a b keeps t known
