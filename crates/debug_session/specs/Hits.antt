-- Which moments and moves hit what is set. GDB remote protocol, gdb's manual, appendix E, section
-- "Stop Reply Packets"; what hits, and who is told as the thread of it, is this project's own rule.
use Rattle.std.specs.Prelude.{ℕ, ◌==◌, ◌&&◌, ◌||◌, Bool, true, false, not, List}
use Rattle.std.specs.Prelude.{find, filter, Option, Some, None, if◌then◌else◌}
use Rattle.std.specs.List.{list_any}
use Rattle.dos_world.specs.Numbered.{run_of}
use Rattle.dos_world.specs.World.{World, Thread, thread_at, live_threads, first_of}
use Rattle.flat_machine.specs.Rest.{process_of}
use Rattle.group_moves.specs.Moves.{MoveKind, runs, faults}
use Rattle.gdb_packets.specs.declared.resumptions.Resumption.{Resumption}
use Rattle.debug_session.specs.Positions.{mover_of}
use Rattle.debug_session.specs.Points.{WatchKind, Watchpoint}
use Rattle.debug_session.specs.declared.points.WatchKind.TheVariants.{Changes, Reads, Accesses}
use Rattle.debug_session.specs.Points.{is_broken_at}
use Rattle.debug_session.specs.Told.{place_of_address, byte_told}
use Rattle.debug_session.specs.Accesses.{Touch, touch_of, is_place_in}
use Rattle.debug_session.specs.Sessions.{Session, is_process_live, is_told_of, is_belonging}

-- ---- breakpoints and faults

abbrev pub is_thread_broken : Session → Option Thread → Bool
is_thread_broken s None = false
is_thread_broken s (Some thread) = is_broken_at s.breakpoints thread.process thread.registers.pc

-- the mover, where a breakpoint is hit
abbrev pub broken_by : Session → List Resumption → World → (mover : Option ℕ) → Option ℕ
broken_by s rs w None = None
broken_by s rs w (Some t) =
    if is_told_of s rs w t && is_thread_broken s (thread_at w t) then Some t else None

-- the thread of the fault that is next, and its number
abbrev pub fault_by : Session → List Resumption → World → Option MoveKind → Option (ℕ × ℕ)
fault_by s rs w (Some (faults t number)) =
    if is_told_of s rs w t then Some (t, number) else None
fault_by s rs w _ = None

-- ---- watched bytes

-- the byte is another, or is mapped before and not behind, or the other way
abbrev pub is_other_byte : Option ℕ → Option ℕ → Bool
is_other_byte None None = false
is_other_byte (Some a) (Some b) = not (a == b)
is_other_byte _ _ = true

abbrev pub watched_addresses : Watchpoint → List ℕ
watched_addresses point = run_of point.address point.length

-- A move changes a watched byte, whoever makes it.
abbrev pub is_changed : (before behind : World) → Watchpoint → Bool
is_changed before behind point =
    list_any (λ a. is_other_byte (byte_told before point.process a)
    (byte_told behind point.process a))
    (watched_addresses point)

-- A thread of process p touches a watched byte, by place.
abbrev pub is_touched : World → (p : ℕ) → Touch → Watchpoint → Bool
is_touched w p touch point =
    list_any (λ a. is_place_in w p touch (place_of_address w point.process a))
    (watched_addresses point)

abbrev pub is_touched_by : (Touch → Bool) → World → ℕ → Watchpoint → Option Touch → Bool
is_touched_by test w t point None = false
is_touched_by test w t point (Some touch) =
    test touch && is_touched w (process_of w t) touch point

-- An instruction touches a watched byte so; a service and a fault don't.
abbrev pub is_touched_so : (Touch → Bool) → World → MoveKind → Watchpoint → Bool
is_touched_so test w (runs t) point = is_touched_by test w t point (touch_of w t)
is_touched_so test w _ point = false

abbrev pub is_hit_as : WatchKind → (before : World) → MoveKind → (behind : World) → Watchpoint
    → Bool
is_hit_as Changes before kind behind point = is_changed before behind point
is_hit_as Reads before kind behind point =
    is_touched_so (λ (touch : Touch). touch.is_read) before kind point
is_hit_as Accesses before kind behind point =
    is_changed before behind point
    || is_touched_so (λ (touch : Touch). touch.is_read || touch.is_written) before kind point

-- The watching process belongs, and lives before the move and behind it.
abbrev pub is_watching : Session → List Resumption → (before behind : World) → Watchpoint → Bool
is_watching s rs before behind point =
    is_belonging s rs before point.process && is_process_live before point.process
    && is_process_live behind point.process

-- the first watchpoint in their order that a move hits
abbrev pub hit_by : Session → List Resumption → (before : World) → MoveKind → (behind : World)
    → Option Watchpoint
hit_by s rs before kind behind =
    find (λ point. is_watching s rs before behind point
    && is_hit_as point.kind before kind behind point)
    s.watchpoints

-- ---- whose hit it is

-- a thread of the watching process that is told of
abbrev pub is_watcher : Session → List Resumption → World → Watchpoint → ℕ → Bool
is_watcher s rs behind point t =
    is_told_of s rs behind t && process_of behind t == point.process

-- The mover, where it is behind the move such a thread.
abbrev pub watching_mover : Session → List Resumption → MoveKind → (behind : World) → Watchpoint
    → Option ℕ
watching_mover s rs kind behind point =
    elim (mover_of kind) [
      | None ↦ None
      | Some t ↦ if is_watcher s rs behind point t then Some t else None
    ]

-- Else the lowest such thread.
abbrev pub lowest_watcher : Session → List Resumption → (behind : World) → Watchpoint → Option ℕ
lowest_watcher s rs behind point =
    first_of (filter (is_watcher s rs behind point) (live_threads behind))
