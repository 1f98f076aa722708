-- Which worlds are lawful: what holds of the opening, and what every instruction, service and
-- signal keeps. This project's own rules and limits.
use Rattle.std.specs.Prelude.{ℕ, List, option_and_then, ◌≡◌, ◌≢◌, ◌⊎◌, ◌↔◌, ◌+◌, ◌*◌, ◌%◌, ◌^◌, ◌<◌}
use Rattle.std.specs.Prelude.{◌≤◌}
use Rattle.std.specs.Prelude.{◌==◌, [], length, map, Option, Some, All, AllPairs, IsTrue, IsFalse}
use Rattle.std.specs.Prelude.{IfSome, count_by, is_some, slice_index, slice_index_or, ⊤}
use Rattle.std.specs.Prelude.{if◌then◌else◌}
use Rattle.std.specs.List.Sorted.{IsStrictlyIncreasing}
use Rattle.dos_world.specs.Numbered.{numbered}
use Rattle.dos_world.specs.World.{World, Process, status_of, holdings_of, Holdings, Thread, Sleeper}
use Rattle.dos_world.specs.World.{Registers, Entry, code_unit, all_holdings, live_process}
use Rattle.dos_world.specs.World.{thread_at, live_threads, threads_of, owner_of, is_state, has_bit}
use Rattle.dos_world.specs.World.{get, page_size, pipe_size}
use Rattle.dos_world.specs.Counts.{is_mapped, is_open}
pub use Rattle.dos_world.specs.Counts.{uses_of}
use Rattle.dos_world.specs.declared.Owner.TheVariants.{Free, Of}
use Rattle.dos_world.specs.declared.Config.{Config}
use Rattle.dos_world.specs.declared.End.{End}
use Rattle.dos_world.specs.declared.End.TheVariants.{PipeRead, PipeWrite}
use Rattle.dos_world.specs.declared.ThreadState.TheVariants.{Asleep}

-- ---- ranges

-- a number of 32 bits
abbrev pub IsWord : ℕ → Type 0
IsWord n = n < 2 ^ 32

-- a number of 8 bits
abbrev pub IsByte : ℕ → Type 0
IsByte n = n < 256

-- a set of signals without 0, which is no signal
abbrev pub IsPending : ℕ → Type 0
IsPending set = IsWord set × IsFalse (has_bit set 0)

-- a mask: neither 0 nor 9, which can't be masked
abbrev pub IsMask : ℕ → Type 0
IsMask set = IsWord set × IsFalse (has_bit set 0) × IsFalse (has_bit set 9)

-- an action: 0 default, 1 ignore, or where an instruction may stand, below 0xF0000000
abbrev pub IsAction : ℕ → Type 0
IsAction a = (a ≡ 1) ⊎ ((a % code_unit ≡ 0) × (a < 0xF0000000))

-- a descriptor: its pipe, where it has one, is one of 64
abbrev pub IsEnd : Option End → Type 0
IsEnd (Some (PipeRead pipe)) = pipe < 64
IsEnd (Some (PipeWrite pipe)) = pipe < 64
IsEnd _ = ⊤

-- an entry of a page from 0x1000 to 0xEFFFFFFF, whose frame there is
abbrev pub IsPage : ℕ → (ℕ × Entry) → Type 0
IsPage frames e = (0x1 ≤ e.0) × (e.0 ≤ 0xEFFFF) × (e.1.frame < frames)

-- ---- a thread's registers, and a thread

-- 32 registers and a reservation of 32 bits; register 0 is 0
pub record AreRegisters (r : Registers) : Type 0 where
  pub pc : IsWord r.pc
  pub count : length r.numbers ≡ 32
  pub words : All IsWord r.numbers
  pub first : get r 0 ≡ 0
  pub held : IfSome r.held IsWord

-- what a handler has saved
abbrev pub IsSaved : (Registers × ℕ) → Type 0
IsSaved s = AreRegisters s.0 × IsMask s.1

-- a thread, of one of these processes that lives
pub record IsThread (processes : List Process) (thread : Thread) : Type 0 where
  pub process : IsTrue (is_some (option_and_then holdings_of (numbered processes thread.process)))
  pub registers : AreRegisters thread.registers
  pub pending : IsPending thread.pending
  pub mask : IsMask thread.mask
  pub saved : (length thread.saved ≤ 4) × All IsSaved thread.saved

-- ---- what a process has

-- where there are so many frames: no page twice and no frame twice
pub record AreHoldings (frames : ℕ) (h : Holdings) : Type 0 where
  pub actions : (length h.actions ≡ 31) × All IsAction h.actions
  pub descriptors : (length h.descriptors ≡ 32) × All IsEnd h.descriptors
  pub rising : IsStrictlyIncreasing (map (λ e. e.0) h.space)
  pub pages : All (IsPage frames) h.space
  pub apart : AllPairs (λ a b. a.1.frame ≢ b.1.frame) h.space

-- a private entry is the only one of its frame
abbrev pub IsAlone : World → (ℕ × Entry) → Type 0
IsAlone w e = IsFalse e.1.shared → uses_of w e.1.frame ≡ 1

-- ---- sleepers and pipes

-- a place where a thread may sleep: a word of a frame
abbrev pub IsSleeper : ℕ → Sleeper → Type 0
IsSleeper frames s = (s.frame < frames) × (s.offset % 4 ≡ 0) × (s.offset < page_size)

-- what a pipe may hold
abbrev pub IsPipe : List ℕ → Type 0
IsPipe bytes = (length bytes ≤ pipe_size) × All IsByte bytes

-- how often a thread that sleeps stands in the queue
abbrev pub turns_asleep : Option Thread → ℕ
turns_asleep thread = if is_state Asleep thread then 1 else 0

-- ---- a run's configuration

-- what a run may be given: the ranges of its quantum, its rounds and its frames
pub record IsConfig (config : Config) : Type 0 where
  pub quantum : (16 ≤ config.quantum) × (config.quantum ≤ 65536)
  pub rounds : (1 ≤ config.rounds) × (config.rounds ≤ 1000000)
  pub frames : (16 ≤ config.frames) × (config.frames ≤ 16384)

-- a status: of 8 bits, where the process has ended
abbrev pub HasStatus : Process → Type 0
HasStatus process = status_of process < 256

-- ---- the world, topic by topic

-- frames
pub record FramesAreLawful (w : World) : Type 0 where
  -- each frame has its 4096 bytes
  pub bytes : (length w.bytes ≡ page_size * length w.owners) × All IsByte w.bytes
  -- a frame is Free exactly where nothing maps it
  pub free : (frame : ℕ) → frame < length w.owners
      → (owner_of w frame ≡ Free) ↔ IsFalse (is_mapped w frame)
  -- a Free frame is zero
  pub zeros : (frame offset : ℕ) → owner_of w frame ≡ Free → offset < page_size
      → slice_index w.bytes (page_size * frame + offset) ≡ 0
  -- an owner's number was given
  pub owned : (frame t : ℕ) → owner_of w frame ≡ Of t → (1 ≤ t) × (t ≤ length w.threads)

-- processes
pub record ProcessesAreLawful (w : World) : Type 0 where
  -- what the live processes have is in range
  pub holdings : All (AreHoldings (length w.owners)) (all_holdings w.processes)
  -- a private entry is the only one of its frame
  pub private : All (λ h. All (IsAlone w) h.space) (all_holdings w.processes)
  -- a live process has a live thread
  pub populated : (p : ℕ) → IsTrue (is_some (live_process w p)) → threads_of w p ≢ []
  -- a parent's number is below its child's
  pub parents : (p : ℕ) → IfSome (numbered w.processes p) (λ process. process.parent < p)
  -- the status of each that has ended is in range
  pub statuses : All HasStatus w.processes
  -- some process was made, and each with a thread
  pub given : (0 < length w.processes) × (length w.processes ≤ length w.threads)

-- threads
pub record ThreadsAreLawful (w : World) : Type 0 where
  -- a live thread is in range, and its process lives
  pub ranges : (t : ℕ) → IfSome (thread_at w t) (IsThread w.processes)
  -- who is asleep stands in the queue once, and nobody else does
  pub asleep : (t : ℕ) → count_by (λ s. s.thread == t) w.sleepers ≡ turns_asleep (thread_at w t)
  -- each sleeps on a word of a frame
  pub sleepers : All (IsSleeper (length w.owners)) w.sleepers

-- pipes
pub record PipesAreLawful (w : World) : Type 0 where
  -- there are 64 pipes of at most 4096 bytes
  pub ranges : (length w.pipes ≡ 64) × All IsPipe w.pipes
  -- a pipe without ends is empty
  pub closed : (pipe : ℕ) → IsFalse (is_open w pipe) → slice_index_or w.pipes pipe [] ≡ []

-- the limits of a group
pub record IsWithinLimits (w : World) : Type 0 where
  -- 64 live threads, and 65535 numbers given
  pub threads : (length (live_threads w) ≤ 64) × (length w.threads ≤ 65535)
  -- 32 live processes
  pub processes : length (all_holdings w.processes) ≤ 32
  -- 16 to 16384 frames
  pub frames : (16 ≤ length w.owners) × (length w.owners ≤ 16384)

-- the limits of a run: a quantum of 16 to 65536, and at most 1000000 rounds that were run
pub record IsWithinRun (quantum rounds : ℕ) : Type 0 where
  pub turn : (16 ≤ quantum) × (quantum ≤ 65536)
  pub count : rounds ≤ 1000000

pub record Lawful (w : World) : Type 0 where
  pub frames : FramesAreLawful w
  pub processes : ProcessesAreLawful w
  pub threads : ThreadsAreLawful w
  pub pipes : PipesAreLawful w
  pub limits : IsWithinLimits w
  pub run : IsWithinRun w.quantum w.rounds
