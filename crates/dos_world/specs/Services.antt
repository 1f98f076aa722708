-- The services by number, and what is served for a thread. This project's own.
use Rattle.std.specs.Prelude.{ℕ, ◌+◌, ◌/◌, ◌%◌, ◌^◌, List, [], ◌∷◌, find, Option, Some, None, ◌==◌}
use Rattle.dos_world.specs.Errors.{enosys}
use Rattle.dos_world.specs.World.{World, Thread, thread_at, get}
use Rattle.dos_world.specs.Play.{Play, Answer, done, Outcome, over, reading_of}
use Rattle.dos_world.specs.declared.Question.TheVariants.{Clock}
pub use Rattle.dos_world.specs.World.{action_of}
pub use Rattle.dos_world.specs.Calls.{Served, went, waits, yields, gone, Call, Service, charged}
pub use Rattle.dos_world.specs.Calls.{call_of, mask_of, asks_shim, returns, returns_in, returns_two}
pub use Rattle.dos_world.specs.Calls.{refuses, refuses_in, replies, retries}
pub use Rattle.dos_world.specs.ThreadCalls.{thread_exit, thread_new, get_tid, yield}
pub use Rattle.dos_world.specs.ThreadCalls.{are_threads_full, next_thread, with_new_thread}
pub use Rattle.dos_world.specs.ThreadCalls.{new_registers, ready_thread}
pub use Rattle.dos_world.specs.ProcessCalls.{process_exit, get_pid, fork, forked, forked_by}
pub use Rattle.dos_world.specs.ProcessCalls.{with_child, copied_space, private_entries}
pub use Rattle.dos_world.specs.ProcessCalls.{next_process, wait, wait_by, children_where, collected}
pub use Rattle.dos_world.specs.DescriptorCalls.{pipe, close, dup, read, read_by, read_input}
pub use Rattle.dos_world.specs.DescriptorCalls.{read_pipe, write, write_by, write_output}
pub use Rattle.dos_world.specs.DescriptorCalls.{write_error, write_pipe, transfers, count_of}
pub use Rattle.dos_world.specs.DescriptorCalls.{descriptor, descriptors_of, pipe_bytes, with_pipe}
pub use Rattle.dos_world.specs.FutexCalls.{futex_wait, futex_wake}
pub use Rattle.dos_world.specs.MemoryCalls.{map_pages, mapped, page_mapped, mapped_fresh, unmap}
pub use Rattle.dos_world.specs.MemoryCalls.{unmapped, share, shared, is_range, pages_of}
pub use Rattle.dos_world.specs.MemoryCalls.{is_page_mapped}
pub use Rattle.dos_world.specs.SignalCalls.{sig_handler, sig_mask, sig_return, kill, is_signal}
pub use Rattle.dos_world.specs.SignalCalls.{is_action}

-- ---- 22 and 24

-- the reading of an answer, modulo 2^64: its low half in a0, its high half in a1
abbrev pub reading_returned : Call → Answer → Play Served
reading_returned c answer =
    returns_two c.world (reading_of answer % 2 ^ 32) (reading_of answer / 2 ^ 32 % 2 ^ 32) c

-- 22: The shim is asked for a reading of its clock.
abbrev pub clock : Service
clock c = asks_shim (Clock (c.world.rounds + 1) c.thread) reading_returned c

-- 24: the number of the round that is being run
abbrev pub round_number : Service
round_number c = returns (c.world.rounds + 1) c

-- ---- the table

-- each service with its number
unfoldable pub services : List (ℕ × Service)
services =
    (1, thread_exit) ∷ (2, process_exit) ∷ (3, thread_new) ∷ (4, fork) ∷ (5, wait) ∷
    (6, pipe) ∷ (7, read) ∷ (8, write) ∷ (9, close) ∷ (10, dup) ∷
    (11, futex_wait) ∷ (12, futex_wake) ∷
    (13, map_pages) ∷ (14, unmap) ∷ (15, share) ∷
    (16, sig_handler) ∷ (17, sig_mask) ∷ (18, sig_return) ∷ (19, kill) ∷
    (20, get_pid) ∷ (21, get_tid) ∷ (22, clock) ∷ (23, yield) ∷ (24, round_number) ∷
    []

-- the service of a row, or refusal 38 where there is none
abbrev pub service_by : Option (ℕ × Service) → Service
service_by None = refuses enosys
service_by (Some row) = row.1

-- the service of this number
abbrev pub service_of : ℕ → Service
service_of number = service_by (find (λ row. row.0 == number) services)

-- ---- serving

-- the service that a7 (x17) names, for a thread that lives
abbrev pub service_for : World → ℕ → Option Thread → Play Served
service_for w t None = done (gone w)
service_for w t (Some thread) = service_of (get thread.registers 17) (call_of w t thread)

-- the service that t's a7 names
abbrev pub service : World → ℕ → Play Served
service w t = service_for w t (thread_at w t)

-- The same over a list of answers of the shim.
abbrev pub serve : World → ℕ → List Answer → Outcome Served
serve w t answers = over answers (service w t)
