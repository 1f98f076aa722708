-- What several services and the signal point share: frames that are taken, threads that wake,
-- signals that are posted, the end of a process. This project's own rules.
use Rattle.std.specs.Prelude.{ℕ, ◌-◌, ◌^◌, Bool, false, not, List, [], ◌∷◌, length, map, filter}
use Rattle.std.specs.Prelude.{Option, None, Some, ◌==◌, nat_lt, if◌then◌else◌, slice_set}
use Rattle.std.specs.List.{list_any}
use Rattle.dos_world.specs.Numbered.{changed}
use Rattle.dos_world.specs.World.{World, Sleeper, Process, Holdings, Thread, Registers, Entry}
use Rattle.dos_world.specs.World.{ended, is_child, parent_of, threads_of, first_thread, belongs_to}
use Rattle.dos_world.specs.World.{with_thread, without_thread, set, past, with_bit}
use Rattle.dos_world.specs.Bytes.{with_page}
unfoldable pub use Rattle.dos_world.specs.Bytes.{zero_page}
use Rattle.dos_world.specs.declared.Owner.TheVariants.{Of}
use Rattle.dos_world.specs.declared.ThreadState.TheVariants.{Ready}
pub use Rattle.dos_world.specs.Counts.{maps_frame, is_mapped, free_frames, lowest_free_frame}
pub use Rattle.dos_world.specs.Counts.{reads_pipe, writes_pipe, has_reader, has_writer, is_open}
pub use Rattle.dos_world.specs.Counts.{tidied}
pub use Rattle.dos_world.specs.Copying.{is_reached, all_reach, opened, place_of, copied_in}
pub use Rattle.dos_world.specs.Copying.{copied_out}

-- ---- taking a frame

-- The lowest free frame becomes t's. Its bytes stay: in a lawful world they are zero.
abbrev pub with_taken : World → ℕ → World
with_taken w t = record w { owners = slice_set w.owners (lowest_free_frame w) (Of t) }

-- The lowest free frame becomes t's, with these bytes.
abbrev pub with_fresh : World → ℕ → List ℕ → World
with_fresh w t page = let frame = lowest_free_frame w in record w {
  bytes = with_page w.bytes frame page;
  owners = slice_set w.owners frame (Of t);
}

-- a page put into a space, in rising order
abbrev pub put : ℕ → Entry → List (ℕ × Entry) → List (ℕ × Entry)
put page entry [] = (page, entry) ∷ []
put page entry (e ∷ space) =
    if nat_lt page e.0 then (page, entry) ∷ e ∷ space else e ∷ put page entry space

-- what a process has, with a page more
abbrev pub with_entry : ℕ → Entry → Holdings → Holdings
with_entry page entry h = record h { space = put page entry h.space }

-- what a process has, with no page
abbrev pub without_entries : Holdings → Holdings
without_entries h = record h { space = [] }

-- ---- an answer in a thread's registers

-- the 32 bits of minus n
abbrev pub minus : ℕ → ℕ
minus n = 2 ^ 32 - n

-- a0 has the answer, and pc is past the ecall
abbrev pub answered : ℕ → Registers → Registers
answered value r = past (set r 10 value)

-- a0 and a1 have the answers, and pc is past the ecall
abbrev pub answered_two : ℕ → ℕ → Registers → Registers
answered_two first second r = set (answered first r) 11 second

-- ---- waking

-- a thread that is ready with this answer
abbrev pub awake : ℕ → Thread → Thread
awake value thread = record thread { registers = answered value thread.registers; state = Ready }

-- whether a sleeper is another thread than t
abbrev pub is_other : ℕ → Sleeper → Bool
is_other t s = not (s.thread == t)

-- t wakes with this answer, and no longer waits for a word
abbrev pub woken : World → ℕ → ℕ → World
woken w t value =
    record (with_thread w t (awake value)) { sleepers = filter (is_other t) w.sleepers }

-- ---- posting

-- a thread at which a signal is pending
abbrev pub pending_with : ℕ → Thread → Thread
pending_with signal thread = record thread { pending = with_bit thread.pending signal }

-- The signal is pending at the process's lowest live thread. Where the process doesn't live,
-- nothing happens.
abbrev pub posted : World → ℕ → ℕ → World
posted w p signal =
    elim (first_thread w p) [ None ↦ w | Some t ↦ with_thread w t (pending_with signal) ]

-- ---- the end of a process and of a thread

-- a thread, unless it is this process's
abbrev pub unless_of : ℕ → Option Thread → Option Thread
unless_of p thread = if belongs_to p thread then None else thread

-- A child whose parent ends has none. A child is a process that wasn't collected, so one that was
-- keeps its parent's number.
abbrev pub orphaned : ℕ → Process → Process
orphaned p process =
    record process { parent = if is_child p process then 0 else process.parent }

-- a process that has ended with this status, not collected yet
abbrev pub ended_by : ℕ → Process → Process
ended_by status process = record process { life = ended status false }

-- whether a sleeper is none of these threads
abbrev pub is_none_of_these : List ℕ → Sleeper → Bool
is_none_of_these threads s = not (list_any (λ t. t == s.thread) threads)

-- Its threads are gone, its descriptors closed and its frames unused, its children have no parent,
-- and 17 is posted to its parent, if that lives.
abbrev pub process_ended : World → ℕ → ℕ → World
process_ended w p status =
    let closed : World = record w {
      processes = map (orphaned p) (changed (ended_by status) w.processes p);
      threads = map (unless_of p) w.threads;
      sleepers = filter (is_none_of_these (threads_of w p)) w.sleepers;
    } in
    posted (tidied closed) (parent_of w p) 17

-- The last thread of a process ends it with status 0.
abbrev pub thread_ended : World → ℕ → ℕ → World
thread_ended w p t =
    if length (threads_of w p) == 1 then process_ended w p 0 else without_thread w t
