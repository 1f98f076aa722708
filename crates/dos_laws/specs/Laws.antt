-- Laws of lawful worlds; the functions of the module laws promise them.
use Rattle.std.specs.Prelude.{ℕ, List, ◌≡◌, ◌<◌, All, Some, Ok, IsTrue, is_some}
use Rattle.dos_world.specs.World.{World, Thread, thread_at, live_process, entry_at, page_of}
use Rattle.dos_world.specs.Lawful.{Lawful}
use Rattle.dos_world.specs.Kernel.{process_ended, thread_ended, free_frames, lowest_free_frame}
use Rattle.dos_world.specs.Kernel.{zero_page}
use Rattle.dos_world.specs.Play.{Answer, gives, over}
use Rattle.dos_world.specs.Calls.{Call, Served}
use Rattle.dos_world.specs.MemoryCalls.{page_mapped}
use Rattle.dos_world.specs.ProcessCalls.{forked}
use Rattle.dos_world.specs.Services.{service}
use Rattle.dos_world.specs.Signals.{signalled, ripen}
use Rattle.dos_world.specs.declared.Entry.{Entry}
use Rattle.dos_world.specs.declared.Post.{Post}
use Rattle.dos_world.specs.declared.Scheme.{Scheme}
use Rattle.dos_world.specs.declared.ThreadState.TheVariants.{Ready}
use Rattle.flat_machine.specs.Step.{step}
use Rattle.flat_machine.specs.Buffered.{Part, buffered, part_b, with_part}
use Rattle.round_core.specs.Invariants.{Keeps, PhaseKeeps}
use Rattle.round_core.specs.Laws.{IsNoPage}
use Rattle.flat_machine.specs.Rest.{settled, serial_of}
use Rattle.flat_machine.specs.Round.{RoundEnd, phase_of, round_of}
use Rattle.dos_laws.specs.Plays.{world_served, world_ended}
use Rattle.dos_laws.specs.Standing.{IsAwake, AreAwake, AreApart, LawfulWith, IsPost, IsFit}
use Rattle.dos_laws.specs.Standing.{fit_protocol}
use Rattle.dos_laws.specs.Taken.{IsPartIn, IsTaken}

-- ---- what holds in a lawful world

-- The process of a live thread lives.
abbrev pub ThreadsHaveProcesses : Type 0
ThreadsHaveProcesses = (w : World) (t : ℕ) (thread : Thread) → Lawful w
    → thread_at w t ≡ Some thread → IsTrue (is_some (live_process w thread.process))

-- The frame of an entry is there, and isn't Free.
abbrev pub EntriesAreTaken : Type 0
EntriesAreTaken = (w : World) (t address : ℕ) (e : Entry) → Lawful w
    → entry_at w t address ≡ Some e → IsTaken w e.frame

-- A page that map gives is zero.
abbrev pub NewPagesAreZero : Type 0
NewPagesAreZero = (w : World) (t p rights page : ℕ) → Lawful w → 0 < free_frames w
    → page_of (page_mapped t p rights w page).bytes (lowest_free_frame w) ≡ zero_page

-- After three grants no instruction stops at a page.
abbrev pub NoPageIsLeft : Type 0
NoPageIsLeft = (w : World) (t : ℕ) → Lawful w → IsNoPage (settled 3 w t).1

-- A part in the buffered scheme has registers in range, and words of frames that aren't Free.
abbrev pub PartsAreInRange : Type 0
PartsAreInRange = (w : World) (t : ℕ) → Lawful w → IsPartIn w.owners (part_b w t)

-- ---- what leaves every lawful world lawful, whatever pipes, sleepers, signals and children it has

-- All that a round does, over all answers that fit: lawfulness is an invariant of the machine.
abbrev pub LawfulnessIsKept : Type 0
LawfulnessIsKept = Keeps fit_protocol LawfulWith

-- an instruction
abbrev pub StepsKeepLawful : Type 0
StepsKeepLawful = (w next : World) (t : ℕ) → step w t ≡ Ok next → Lawful w → Lawful next

-- the parallel phase of either scheme
abbrev pub ParallelPhasesKeep : Type 0
ParallelPhasesKeep = (scheme : Scheme) (w : World) → Lawful w → Lawful (phase_of scheme w)

-- the end of a process
abbrev pub ProcessEndsKeep : Type 0
ProcessEndsKeep = (w : World) (p status : ℕ) → status < 256 → Lawful w
    → Lawful (process_ended w p status)

-- the end of a thread that is ready
abbrev pub ThreadEndsKeep : Type 0
ThreadEndsKeep = (w : World) (t : ℕ) (thread : Thread) → thread_at w t ≡ Some thread
    → thread.state ≡ Ready → Lawful w → Lawful (thread_ended w thread.process t)

-- a fork that isn't refused, of a caller that is ready
abbrev pub ForksKeep : Type 0
ForksKeep = (c : Call) (v : World) (caller : Thread) → Lawful c.world
    → thread_at c.world c.thread ≡ Some caller → caller.state ≡ Ready → caller.process ≡ c.process
    → forked c ≡ Ok v → Lawful v

-- what is served for a thread that is ready, or gone
abbrev pub ServicesKeep : Type 0
ServicesKeep = (w : World) (t : ℕ) (answers rest : List Answer) (served : Served)
    → IsAwake w t → Lawful w → All IsFit answers
    → over answers (service w t) ≡ gives served rest → Lawful (world_served served)

-- the serial phase of threads that are ready or gone, each once
abbrev pub SerialPhasesKeep : Type 0
SerialPhasesKeep = (w last : World) (starters : List ℕ) (answers rest : List Answer)
    → AreAwake w starters → AreApart starters → Lawful w → All IsFit answers
    → over answers (serial_of w starters) ≡ gives last rest → Lawful last

-- the signal point: signals from 1 to 31 that are posted, and each thread's turn
abbrev pub SignalPointsKeep : Type 0
SignalPointsKeep = (w : World) (posts : List Post) → All IsPost posts → Lawful w
    → Lawful (signalled w posts)

-- who waits no longer is ready
abbrev pub RipeningKeeps : Type 0
RipeningKeeps = (w : World) → Lawful w → Lawful (ripen w)

-- a round of either scheme, where one is left to be counted
abbrev pub RoundsKeep : Type 0
RoundsKeep = (w : World) (scheme : Scheme) (end : RoundEnd) (answers rest : List Answer)
    → w.rounds < 1000000 → Lawful w → All IsFit answers
    → over answers (round_of scheme w) ≡ gives end rest → Lawful (world_ended end)

-- ---- what the buffered scheme puts in

-- a part in range that is put in
abbrev pub PartsKeep : Type 0
PartsKeep = (w : World) (t : ℕ) (p : Part) → IsPartIn w.owners p → Lawful w
    → Lawful (with_part w t p)

-- its parallel phase, in which those threads stay ready that were
abbrev pub BufferedPhasesKeep : Type 0
BufferedPhasesKeep = PhaseKeeps LawfulWith buffered
