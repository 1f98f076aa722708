-- A walk over a kernel: its state, and the moment of a run at which it stands. This project's own
-- words.
use Rattle.std.specs.Prelude.{ℕ, ◌≡◌, ◌≤◌, ◌+◌, ◌-◌, Bool, List, ◌∷◌, ◌++◌, length, Option, Some}
use Rattle.std.specs.Prelude.{None}
use Rattle.std.specs.Prelude.{⊤, false}
use Rattle.dos_world.specs.World.{World}
use Rattle.dos_world.specs.Play.{Answer, gives}
use Rattle.dos_world.specs.declared.Config.{Config}
use Rattle.dos_io.specs.Borders.{BorderState}
use Rattle.group_moves.specs.Moves.{MoveKind, begins, runs, is_served, faults}
use Rattle.group_moves.specs.Moments.{Moment, walk}
use Rattle.group_moves.specs.Places.{Place, between_rounds, within_part, within_rest, at_end}
use Rattle.group_moves.specs.Places.{is_part_over, is_rest_over}
use Rattle.group_rounds.specs.Kernels.{IsBetweenRounds}
use Rattle.group_rounds.specs.Phases.{AreLive}
use Rattle.group_rounds.specs.Rounds.{answers_since}
use Rattle.kernel_calls.specs.StateWorld.{HaveParts, IsSound, sent, world_of}
use Rattle.kernel_calls.specs.declared.state.State.{State}
use Rattle.proc_table.specs.Tables.{IsLiveThread}
use Rattle.group_walk.specs.declared.walker.MoveKind.{MoveKind as kind_type}
use Rattle.group_walk.specs.declared.walker.MoveKind.TheVariants.{Begins, Runs, IsServed, Faults}

-- The state, with all frames home; what the run was given; whose turn it is; how many rounds have
-- begun, and how many moves were made since the last of them did; and whether a move has failed.
pub record Walk : Type 0 where
  pub state : State
  pub config : Config
  pub place : Place
  pub begun_rounds : ℕ
  pub made : ℕ
  pub failed : Bool

-- ---- the moment

-- the walk's world, with these bytes sent so far
abbrev pub world_there : Walk → (output error : List ℕ) → World
world_there here output error = sent output error (world_of here.config.quantum here.state)

-- the walk's moment in this world
abbrev pub moment_in : Walk → World → Moment
moment_in here w = record {
  begun_rounds = here.begun_rounds;
  made = here.made;
  world = w;
  place = here.place;
}

-- the walk's moment, with nothing sent
abbrev pub moment_of : Walk → Moment
moment_of here = moment_in here (world_of here.config.quantum here.state)

-- Over the answers that the shim has given since, so many moves lead from the old walk's moment to
-- the new one's, whatever was sent before: with bytes sent that are there by then. Answers that are
-- more are left.
abbrev pub HasWalked : (moves : ℕ) → (old new : Walk) → (before after : BorderState) → Type 0
HasWalked moves old new before after = (o e : List ℕ)
    → (output : List ℕ) × (error : List ℕ) × ((more : List Answer)
    → walk moves old.config.rounds (answers_since before.shim.told after.shim.told ++ more)
    (moment_in old (world_there old o e))
    ≡ gives (moment_in new (world_there new output error)) more)

-- ---- kinds of moves

-- what a kind stands for
abbrev pub kind_named : kind_type → MoveKind
kind_named Begins = begins
kind_named (Runs thread) = runs thread
kind_named (IsServed thread) = is_served thread
kind_named (Faults thread number) = faults thread number

-- the same, where there is one
abbrev pub kinds_named : Option kind_type → Option MoveKind
kinds_named None = None
kinds_named (Some kind) = Some (kind_named kind)

-- ---- what holds of a walk

-- Who is at its part of a phase lives, and the part isn't over; and who has a part yet may have it.
abbrev pub AreThere : State → Place → Type 0
AreThere s between_rounds = ⊤
AreThere s (within_part starters t ts) = AreLive s.table.threads (t ∷ ts) × HaveParts starters s
    × ((q : ℕ) (o e : List ℕ) → is_part_over (sent o e (world_of q s)) t ≡ false)
AreThere s (within_rest starters t ts) = IsLiveThread s.table.threads t × HaveParts (t ∷ ts) s
    × ((q : ℕ) (o e : List ℕ) → is_rest_over (sent o e (world_of q s)) t ≡ false)
AreThere s (at_end ending) = ⊤
AreThere s _ = ⊥

-- the round in which a place stands: of a round under way its own, else the next one
abbrev pub round_at : (round : ℕ) → Place → ℕ
round_at round between_rounds = round + 1
round_at round _ = round

-- At this place the round of the old state is under way, or is over and counted; all else that a
-- walk needs is as before.
pub record ComesTo (old new : State) (place : Place) : Type 0 where
  pub sound : IsSound new
  pub count : length new.frames.owners ≡ length old.frames.owners
  pub round : new.round ≡ round_at old.round place
  pub there : AreThere new place

-- how many rounds have begun at a place, and that no more have than may
abbrev pub HasBegun : (round limit begun : ℕ) → Place → Type 0
HasBegun round limit begun between_rounds = begun ≡ round - 1
HasBegun round limit begun _ = (begun ≡ round) × (round ≤ limit)

-- Its state is one that may stand between two rounds.
pub record IsWalking (here : Walk) : Type 0 where
  pub between : IsBetweenRounds here.state here.config
  pub begun : HasBegun here.state.round here.config.rounds here.begun_rounds here.place
  pub there : AreThere here.state here.place
