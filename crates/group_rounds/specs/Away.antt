-- A kernel that is handed out: the pages of its ready threads are with packs. This project's own
-- rules.
use Rattle.std.specs.Prelude.{ℕ, ◌≡◌, ◌+◌, ◌-◌, ◌≤◌, List, map, length, false, Some, slice_get}
use Rattle.dos_world.specs.World.{World}
use Rattle.dos_world.specs.declared.Config.{Config}
use Rattle.dos_world.specs.declared.Scheme.TheVariants.{Ownership}
use Rattle.quantum_run.specs.Packs.{empty_pack}
use Rattle.quantum_run.specs.Shows.{Pack}
use Rattle.worker_pool.specs.Ran.{AllRan}
use Rattle.flat_machine.specs.Round.{with_budgets, parallel, budgets as world_budgets}
use Rattle.kernel_calls.specs.StateWorld.{StaysInRound, sent, world_of}
use Rattle.kernel_calls.specs.declared.state.State.{State}
use Rattle.group_rounds.specs.Handing.{Handing, pack_of, view_of, AreSpare}
use Rattle.group_rounds.specs.Kernels.{Held, IsBetweenRounds}
use Rattle.group_rounds.specs.Phases.{AreLive, ready_in}

-- the state without the pages that are away, what the run was given, the threads whose pages they
-- are, and the packs, one for each of these threads
pub record Away : Type 0 where
  pub state : State
  pub config : Config
  pub starters : List ℕ
  pub packs : List Pack

-- These packs went out of a state that may stand between two rounds, and which is as it was but for
-- them.
pub record WentOut (before : State) (a : Away) : Type 0 where
  pub between : IsBetweenRounds before a.config
  pub begun : 1 ≤ before.round
  pub live : AreLive before.table.threads a.starters
  pub apart : (i j t : ℕ) → slice_get a.starters i ≡ Some t → slice_get a.starters j ≡ Some t
      → i ≡ j
  pub few : length a.starters ≤ 64
  pub hands : Handing a.starters
      (map (pack_of before.table (empty_pack (length before.frames.pages))) a.starters)
      before.frames
      a.state.frames a.packs (length before.frames.pages)
  pub table : a.state.table ≡ before.table
  pub round : a.state.round ≡ before.round
  pub pipes : a.state.pipes ≡ before.pipes
  pub futexes : a.state.futexes ≡ before.futexes

-- The ready threads of a kernel have the quantum as their budgets, and then went out.
pub record IsHandedOut (k : Held) (a : Away) : Type 0 where
  pub before : State
  pub begins : (o e : List ℕ)
      → with_budgets (sent o e (world_of k.config.quantum k.state)) (ready_in k.state.table.threads)
      ≡ sent o e (world_of k.config.quantum before)
  pub out : WentOut before a
  pub config : a.config ≡ k.config
  pub starters : a.starters ≡ ready_in k.state.table.threads
  pub round : StaysInRound k.state before

-- Each pack has run; nothing else is another.
pub record HaveRun (a after : Away) : Type 0 where
  pub runs : AllRan (view_of a.state.frames a.state.table) a.packs after.packs
  pub rest : after ≡ record a { packs = after.packs }

-- the kernel's world with the budgets set, whatever bytes were sent before
abbrev pub opening_with_budgets : Held → List ℕ → List ℕ → World
opening_with_budgets k o e =
    with_budgets (sent o e (world_of k.config.quantum k.state)) (ready_in k.state.table.threads)

-- The kernel's parallel phase led to this one; and it ran so many instructions.
pub record IsParallelOf (k : Held) (work : ℕ) (after : Held) : Type 0 where
  pub runs : (o e : List ℕ)
      → parallel (opening_with_budgets k o e) ≡ sent o e (world_of k.config.quantum after.state)
  pub work_is : (o e : List ℕ)
      → world_budgets (opening_with_budgets k o e) (ready_in k.state.table.threads)
      - world_budgets (parallel (opening_with_budgets k o e)) (ready_in k.state.table.threads)
      ≡ work
  pub config : after.config ≡ k.config
  pub starters : after.starters ≡ ready_in k.state.table.threads
  pub running : after.failed ≡ false
  pub round : StaysInRound k.state after.state

-- room for the packs to come back, and for the next round
pub record HasRoomToComeBack (frames : ℕ) (config : Config) (starters : ℕ) (spare out : List Pack)
    (spare_room out_room : ℕ) : Type 0 where
  pub scheme : config.scheme ≡ Ownership
  pub frames_are : frames ≡ config.frames
  pub starters_room : 64 ≤ starters
  pub empty : AreSpare (empty_pack frames) spare
  pub many : 64 ≤ length spare + length out
  pub fits : length spare + length out ≤ spare_room
  pub room : 64 ≤ out_room
