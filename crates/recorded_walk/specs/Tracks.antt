-- A walk by the answers of a log. This project's own words.
use Rattle.std.specs.Prelude.{ℕ, ◌≡◌, ◌≤◌, ◌+◌, ◌++◌, List, [], length, Option, Some, None, false}
use Rattle.dos_io.specs.Shims.{HasNoEnd}
use Rattle.dos_world.specs.declared.Misfit.{Misfit}
use Rattle.flat_machine.specs.Fits.{first_misfit}
use Rattle.group_moves.specs.Moments.{Moment, kind_at}
use Rattle.group_moves.specs.Moves.{move_of}
use Rattle.group_walk.specs.Walks.{Walk, kinds_named, moment_in, world_there}
use Rattle.group_walk.specs.declared.walker.MoveKind.{MoveKind as kind_type}
use Rattle.shim_log.specs.Replay.{ReplayState, entries_used, replayer_state}
use Rattle.recorded_walk.specs.Following.{entries_left, follow, follow_one, log_entries}
use Rattle.recorded_walk.specs.declared.track.Track.{Track}

-- ---- one move

-- where a walk stands, with these bytes sent so far
abbrev pub moment_sent : Walk → (output error : List ℕ) → Moment
moment_sent walk output error = moment_in walk (world_there walk output error)

-- The move that is next there is of this kind, whatever was sent so far.
abbrev pub HasNext : Option kind_type → Walk → Type 0
HasNext kind walk = (o e : List ℕ)
    → kind_at walk.config.rounds (moment_sent walk o e) ≡ kinds_named kind

-- The next move leads there, and puts these bytes, whatever was sent so far.
abbrev pub MovesOnTo : (old : Walk) → ReplayState → (new : Walk) → ReplayState
    → (output error : List ℕ) → Type 0
MovesOnTo old before new after output error = (o e : List ℕ)
    → follow_one old.config.rounds (entries_left before) (moment_sent old o e)
    ≡ Some (moment_sent new (o ++ output) (e ++ error), entries_left after)

-- The entries have no next move there, whatever was sent so far.
abbrev pub MovesNowhere : Walk → ReplayState → Type 0
MovesNowhere walk shim = (o e : List ℕ)
    → follow_one walk.config.rounds (entries_left shim) (moment_sent walk o e) ≡ None

-- The next move asks another question than that of its next entry, whatever was sent so far: which
-- entry it is, its question, and what is asked.
abbrev pub MisfitsBy : Misfit → Walk → ReplayState → Type 0
MisfitsBy found walk shim = (o e : List ℕ)
    → first_misfit (entries_used shim) (entries_left shim)
    (move_of (world_there walk o e) walk.place) ≡ Some found

-- ---- a track

-- Nothing has failed, and the log's end wasn't asked for.
pub record IsOnTrack (t : Track) : Type 0 where
  pub running : t.walker.failed ≡ false
  pub made : t.walker.made ≤ t.moves
  pub told : HasNoEnd (replayer_state t.shim).told
  pub used : entries_used t.shim ≤ length (log_entries t.shim.log)

-- It stands behind its moves, which began at this moment.
pub record HasCome (first : Moment) (t : Track) : Type 0 where
  pub output : List ℕ
  pub error : List ℕ
  pub is : follow t.moves t.walker.config.rounds (log_entries t.shim.log) first
      ≡ Some (moment_sent t.walker output error, entries_left t.shim)

-- the same log, from the same entry on, and the same configuration
pub record IsOfSameRun (old new : Track) : Type 0 where
  pub log : new.shim.log ≡ old.shim.log
  pub start : new.shim.start ≡ old.shim.start
  pub config : new.walker.config ≡ old.walker.config

-- A move was made of this kind, and its bytes were kept; or none is next, and nothing was put.
abbrev pub HasStepped : Option kind_type → (old new : Track) → Type 0
HasStepped None old new = (new.moves ≡ old.moves) × MovesNowhere old.walker old.shim
    × (new.walker ≡ old.walker) × (new.shim ≡ old.shim)
    × (new.out.bytes.items ≡ []) × (new.err.bytes.items ≡ []) × HasNext None old.walker
HasStepped (Some kind) old new = (new.moves ≡ old.moves + 1) × HasNext (Some kind) old.walker
    × MovesOnTo old.walker old.shim new.walker new.shim new.out.bytes.items new.err.bytes.items
