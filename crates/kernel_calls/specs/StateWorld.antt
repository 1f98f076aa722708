-- The flat world of a state, what a sound state is, and what it means to have served. This
-- project's own rules.
use Rattle.std.specs.Prelude.{◌≡◌, ◌≤◌, ◌-◌, ℕ, Bool, true, false, List, [], ◌∷◌, length}
use Rattle.std.specs.Prelude.{sum_by, count_by, Option, None, Some, IfSome}
use Rattle.dos_world.specs.World.{World, Process, Thread, Sleeper, all_holdings}
use Rattle.dos_world.specs.Counts.{reads_pipe, writes_pipe}
use Rattle.dos_world.specs.declared.End.{End}
use Rattle.kernel_objects.specs.Pipework.{Pipework, ends_at}
use Rattle.dos_world.specs.Lawful.{Lawful, uses_of}
use Rattle.dos_world.specs.Services.{Served as FlatServed, went, waits, yields, gone}
use Rattle.dos_world.specs.declared.ThreadState.TheVariants.{Ready}
use Rattle.dos_io.specs.Outside.{Rose}
use Rattle.dos_io.specs.declared.shim.ShimStop.{ShimStop}
use Rattle.dos_io.specs.declared.shim.ShimStop.TheVariants.{HostFault as host_fault}
use Rattle.dos_io.specs.declared.shim.ShimStop.TheVariants.{LogFull as log_full, Misfit as misfit}
use Rattle.dos_io.specs.declared.shim.ShimStop.TheVariants.{Memory as memory}
use Rattle.dos_laws.specs.Standing.{AreAwake, AreApart}
use Rattle.page_store.specs.Store.{uses_at}
use Rattle.proc_table.specs.Tables.{thread_in}
use Rattle.kernel_mem.specs.MemoryWorld.{in_world, HasAllHome, KeepsUses}
use Rattle.kernel_calls.specs.declared.state.State.{State}
use Rattle.kernel_calls.specs.declared.state.Served.{Served}
use Rattle.kernel_calls.specs.declared.state.Served.TheVariants.{Went, Waits, Yields, Gone}
use Rattle.kernel_calls.specs.declared.state.RunStop.{RunStop}
use Rattle.kernel_calls.specs.declared.state.RunStop.TheVariants.{HostFault, LogFull, Misfit}
use Rattle.kernel_calls.specs.declared.state.RunStop.TheVariants.{OutFault, ErrFault, Memory}

-- ---- the world of a state

-- what a state has besides its frames and its table, in its round: these pipes and sleepers, and no
-- byte sent
abbrev pub base : ℕ → ℕ → List (List ℕ) → List Sleeper → World
base quantum round pipes sleepers = record {
  bytes = [];
  owners = [];
  processes = [];
  threads = [];
  pipes = pipes;
  sleepers = sleepers;
  rounds = round - 1;
  quantum = quantum;
  output = [];
  error = [];
}

-- the world of a state under this quantum, with nothing sent
abbrev pub world_of : ℕ → State → World
world_of quantum s = in_world (base quantum s.round s.pipes.bytes s.futexes) s.frames s.table

-- the world with these bytes sent so far
abbrev pub sent : List ℕ → List ℕ → World → World
sent output error w = record w { output = output; error = error }

-- ---- sound states

-- how many descriptors of the live processes pass a test
abbrev pub ends_of : (Option End → Bool) → List Process → ℕ
ends_of test processes = sum_by (λ h. count_by test h.descriptors) (all_holdings processes)

-- The counts of ends are those of the descriptors that name them.
pub record AreCounted (processes : List Process) (pipes : Pipework) : Type 0 where
  pub readers : (pipe : ℕ) → ends_at pipes pipe false ≡ ends_of (reads_pipe pipe) processes
  pub writers : (pipe : ℕ) → ends_at pipes pipe true ≡ ends_of (writes_pipe pipe) processes
  pub reader_counts : length pipes.readers ≡ 64
  pub writer_counts : length pipes.writers ≡ 64

-- The kept numbers of a state are those of its world.
pub record IsCounted (s : State) : Type 0 where
  -- every page is home
  pub home : HasAllHome s.frames
  -- rounds are numbered from 1
  pub round : 1 ≤ s.round
  -- a space has room for every frame
  pub room : length s.frames.owners ≤ s.table.room
  -- a frame's kept uses are the entries that have it
  pub uses : (q frame : ℕ) → uses_at s.frames frame ≡ uses_of (world_of q s) frame
  -- the kept ends of pipes are those that processes have
  pub ends : AreCounted s.table.processes s.pipes

-- A sound state: its kept numbers are those of its world, and that is lawful under every quantum
-- that a run may have.
pub record IsSound (s : State) : Type 0 where
  pub counted : IsCounted s
  pub lawful : (q : ℕ) → 16 ≤ q → q ≤ 65536 → Lawful (world_of q s)

-- a live thread that neither waits nor sleeps; so is every caller
abbrev pub IsReady : List (Option Thread) → ℕ → Type 0
IsReady threads t = IfSome (thread_in threads t) (λ thread. thread.state ≡ Ready)

-- ---- who has a part

-- These threads may have their serial parts, one after another: each is ready, or gone, and stands
-- here once.
pub record HaveParts (ts : List ℕ) (s : State) : Type 0 where
  pub awake : AreAwake (world_of 0 s) ts
  pub apart : AreApart ts

-- who has a part left after a service of t's: where it goes on, t is the first
abbrev pub left_after : Served → ℕ → List ℕ → List ℕ
left_after Went t ts = t ∷ ts
left_after Waits t ts = ts
left_after Yields t ts = ts
left_after Gone t ts = ts

-- ---- having served

-- to go on this way, in this world
abbrev pub way_in : Served → World → FlatServed
way_in Went w = went w
way_in Waits w = waits w
way_in Yields w = yields w
way_in Gone w = gone w

-- ---- not having served

-- the stop of a shim that ends a run, where it was the shim's
abbrev pub shim_stop : RunStop → Option ShimStop
shim_stop HostFault = Some host_fault
shim_stop LogFull = Some log_full
shim_stop (Misfit m) = Some (misfit m)
shim_stop Memory = Some memory
shim_stop OutFault = None
shim_stop ErrFault = None

-- It is in its round, and the owners are marked that were.
pub record StaysInRound (old new : State) : Type 0 where
  pub round : new.round ≡ old.round
  pub marked : new.frames.marked ≡ old.frames.marked

-- All stands but owners: each process and thread is as it was, its registers and budget too, and so
-- are each frame's page and uses.
-- Owners differ at most by the grants of what was read.
pub record StandsButOwners (old new : State) : Type 0 where
  pub table : new.table ≡ old.table
  pub frames : KeepsUses old.frames new.frames
  pub pipes : new.pipes ≡ old.pipes
  pub futexes : new.futexes ≡ old.futexes

-- a sink's fault that ends a run comes only where that sink's count rose
abbrev pub HasSinkCause : RunStop → (out out_after err err_after : ℕ) → Type 0
HasSinkCause OutFault out out_after err err_after = Rose out out_after
HasSinkCause ErrFault out out_after err err_after = Rose err err_after
HasSinkCause _ out out_after err err_after = Unit {0}
