-- A recorded run that is walked: what is kept of it, and where it stands. This project's own words.
use Rattle.std.specs.Prelude.{ℕ, zero, suc, ◌≡◌, ◌≢◌, ◌≤◌, ◌<◌, ◌+◌, Bool, List, ◌∷◌, length, drop}
use Rattle.std.specs.Prelude.{All, Option, ⊤}
use Rattle.std.specs.Prelude.{Some, None, IfSome, IsSome}
use Rattle.dos_world.specs.Lawful.{IsConfig}
use Rattle.dos_world.specs.World.{World, thread_at}
use Rattle.dos_world.specs.declared.Config.{Config}
use Rattle.dos_world.specs.declared.Ending.{Ending}
use Rattle.dos_world.specs.declared.Misfit.{Misfit}
use Rattle.dos_world.specs.declared.Scheme.TheVariants.{Ownership}
use Rattle.debug_session.specs.Positions.{Position, at_start, first_kind, moved_on}
use Rattle.debug_session.specs.Positions.{position_after}
use Rattle.debug_session.specs.Recordings.{LogEntry, Recording, misfit_here, recorded}
use Rattle.debug_session.specs.Recordings.{recorded_from, used_entries}
use Rattle.elf_image.specs.Image.{Image}
use Rattle.flat_machine.specs.Opening.{needed, opening}
use Rattle.group_moves.specs.Moments.{Moment, ending_at, first_moment, kind_at}
use Rattle.group_moves.specs.Moves.{MoveKind, runs}
use Rattle.group_open.specs.declared.error.OpenError.{OpenError}
use Rattle.group_open.specs.declared.error.OpenError.TheVariants.{Memory, NoRoom}
use Rattle.group_walk.specs.Exits.{IsDeserted}
use Rattle.group_walk.specs.Stretches.{IsElsewhere, IsSameGroup, KeepsFrame}
use Rattle.group_walk.specs.Walks.{Walk, moment_in, world_there}
use Rattle.group_walk.specs.declared.walker.MoveKind.{MoveKind as kind_type}
use Rattle.group_walk.specs.declared.walker.Phase.{Phase}
use Rattle.group_walk.specs.declared.walker.Phase.TheVariants.{Between, Parallel, Serial, Ended}
use Rattle.recorded_walk.specs.Following.{follow}

-- The images and the configuration of a run, the entries of its log, and how many of them the moves
-- up to here have used; the walk; how many moves were made since the start, and the greatest such
-- number so far; what the last move put; and whether a call has failed.
pub record Played : Type 0 where
  pub images : List Image
  pub config : Config
  pub entries : List LogEntry
  pub used : ℕ
  pub walk : Walk
  pub moves : ℕ
  pub reached : ℕ
  pub output : List ℕ
  pub error : List ℕ
  pub failed : Bool

-- ---- positions

-- This is the start of the history of these images over these entries, which is over behind some
-- number of moves.
pub record IsStart (images : List Image) (config : Config) (entries : List LogEntry)
    (start : Position) : Type 0 where
  pub most : ℕ
  pub is : start
      ≡ at_start (first_moment (opening images config)) (recorded most images config entries)
  pub ended : (more : ℕ)
      → recorded (most + more) images config entries ≡ recorded most images config entries

-- the same of the run that is walked
abbrev pub IsStartOf : Played → Position → Type 0
IsStartOf p start = IsStart p.images p.config p.entries start

-- The walk's world is that of this moment, with what was sent by then; what is ahead is what the
-- entries that are left lead to from there, as far as that goes; and the others are those that the
-- moves behind have used.
pub record IsAtPlace (p : Played) (at : Position) : Type 0 where
  pub moment : at.moment
      ≡ moment_in p.walk (world_there p.walk at.moment.world.output at.moment.world.error)
  pub left : ℕ
  pub future : (more : ℕ)
      → at.future ≡ recorded_from (left + more) p.config.rounds (drop p.used p.entries) at.moment
  pub used : (r : Recording) → r.entries ≡ p.entries → used_entries r at ≡ p.used

-- It stands where so many moves lead from the start.
abbrev pub Stands : Played → Type 0
Stands p = (start : Position) → IsStartOf p start → IsAtPlace p (position_after p.moves start)

-- ---- calls

-- the same run
pub record IsOfSame (old new : Played) : Type 0 where
  pub images : new.images ≡ old.images
  pub config : new.config ≡ old.config
  pub entries : new.entries ≡ old.entries

-- how many moves a call has made, by the kind of the move
abbrev pub moves_made : Option kind_type → ℕ
moves_made None = 0
moves_made (Some kind) = 1

-- The run has ended so at this moment, whatever its log holds; or a move is next there.
abbrev pub IsEndedAs : (limit : ℕ) → Moment → Option Ending → Type 0
IsEndedAs limit m None = IsSome (kind_at limit m)
IsEndedAs limit m (Some ending) = (kind_at limit m ≡ None) × (ending_at m.world m.place ≡ ending)

-- an ending in which a phase is the run's last
abbrev pub ended_in : Phase → Option Ending
ended_in Between = None
ended_in Parallel = None
ended_in Serial = None
ended_in (Ended ending) = Some ending

-- What a log misfits by at a position: nothing where a move is ahead or the run has ended.
abbrev pub IsMisfitAt : (limit : ℕ) → Recording → Position → Option Misfit → Type 0
IsMisfitAt limit r at misfit = first_kind at.future ≡ None → IsSome (kind_at limit at.moment)
    → misfit_here r at ≡ misfit

-- What was kept are the bytes that were sent from one world to the other.
pub record Heard (p : Played) (before behind : World) : Type 0 where
  pub output : p.output ≡ drop (length before.output) behind.output
  pub error : p.error ≡ drop (length before.error) behind.error

-- ---- instructions ahead

-- The move that is ahead is an instruction of t, which is at none of these addresses; the group and
-- the bytes of these frames are the same behind it, in the same round.
pub record IsSilentMove (stops kept : List ℕ) (t : ℕ) (at : Position) : Type 0 where
  pub next : Moment
  pub later : List (MoveKind × Moment)
  pub ahead : at.future ≡ (runs t, next) ∷ later
  pub elsewhere : IsElsewhere stops (thread_at at.moment.world t)
  pub same : IsSameGroup at.moment.world next.world
  pub keeps : All (KeepsFrame at.moment.world next.world) kept
  pub round : next.begun_rounds ≡ at.moment.begun_rounds
  pub made : next.made ≡ suc at.moment.made

-- So many moves ahead are such.
abbrev pub AreSilentMoves : (stops kept : List ℕ) → (count t : ℕ) → Position → Type 0
AreSilentMoves stops kept zero t at = ⊤
AreSilentMoves stops kept (suc count) t at =
    IsSilentMove stops kept t at × AreSilentMoves stops kept count t (moved_on at)

-- They are so of one thread.
pub record MovesSilently (stops kept : List ℕ) (count : ℕ) (at : Position) : Type 0 where
  pub thread : ℕ
  pub silent : AreSilentMoves stops kept count thread at

-- ---- the last exit ahead

-- A move is ahead behind which no process lives.
pub record IsLastExit (at : Position) : Type 0 where
  pub kind : MoveKind
  pub next : Moment
  pub later : List (MoveKind × Moment)
  pub ahead : at.future ≡ (kind, next) ∷ later
  pub deserted : IsDeserted next.world

-- ---- opening

-- Of these images and this configuration a group of the ownership scheme can be opened.
pub record IsOpenable (images : List Image) (config : Config) : Type 0 where
  pub some : 1 ≤ length images
  pub few : length images ≤ 8
  pub range : IsConfig config
  pub scheme : config.scheme ≡ Ownership
  pub room : needed images ≤ config.frames

-- There was no memory, or not as many frames as the images need.
abbrev pub IsRefused : List Image → Config → OpenError → Type 0
IsRefused images config error = error ≢ Memory
    → (error ≡ NoRoom (needed images) config.frames) × (config.frames < needed images)

-- ---- what is kept of a history

-- The history of these images over these entries has so many moves.
abbrev pub HasMoves : List Image → Config → List LogEntry → ℕ → Type 0
HasMoves images config entries moves =
    IsSome (follow moves config.rounds entries (first_moment (opening images config)))

-- It has no more than so many moves, where these are known.
abbrev pub HasNoMore : List Image → Config → List LogEntry → Option ℕ → Type 0
HasNoMore images config entries last = IfSome last (λ moves.
    follow (suc moves) config.rounds entries (first_moment (opening images config)) ≡ None)

-- What the entries misfit by behind the last of the moves, where these are known, in each recording
-- that has these entries.
abbrev pub KnowsMisfit : List Image → Config → List LogEntry → (last : Option ℕ) → Option Misfit
    → Type 0
KnowsMisfit images config entries last misfit = IfSome last (λ moves. (start : Position)
    (r : Recording) → IsStart images config entries start → r.entries ≡ entries
    → misfit_here r (position_after moves start) ≡ misfit)
