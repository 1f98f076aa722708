-- The services of a process: process_exit, fork, wait, get_pid. This project's own; error numbers
-- are chosen after Linux's.
use Rattle.std.specs.Prelude.{ℕ, ◌+◌, ◌%◌, Bool, true, not, ◌&&◌, ◌||◌, List, [], ◌∷◌, ◌++◌, length}
use Rattle.std.specs.Prelude.{filter, Option, Some, None, Result, Ok, Err, ◌==◌, count_by, nat_lt}
use Rattle.std.specs.Prelude.{nat_le, if◌then◌else◌}
use Rattle.dos_world.specs.Errors.{eagain, echild, enomem}
use Rattle.dos_world.specs.Numbered.{changed, numbers_of}
use Rattle.dos_world.specs.World.{World, Process, Holdings, Thread, Entry, live, ended}
use Rattle.dos_world.specs.World.{live_process, process_at, all_holdings, thread_at, first_of}
use Rattle.dos_world.specs.World.{has_ended, is_child, status_of, released, page_of}
use Rattle.dos_world.specs.Kernel.{answered, free_frames, lowest_free_frame, with_fresh}
use Rattle.dos_world.specs.Kernel.{process_ended}
use Rattle.dos_world.specs.Play.{done}
use Rattle.dos_world.specs.Calls.{Service, Call, gone, returns, returns_two, refuses, replies}
use Rattle.dos_world.specs.Calls.{retries}
use Rattle.dos_world.specs.ThreadCalls.{are_threads_full, next_thread, with_new_thread}
use Rattle.dos_world.specs.ThreadCalls.{ready_thread}

-- 2: The process ends with status a0 mod 256.
abbrev pub process_exit : Service
process_exit c = done (gone (process_ended c.world c.process (c.a0 % 256)))

-- 20: the process's number
abbrev pub get_pid : Service
get_pid c = returns c.process c

-- ---- 4: fork

-- how many entries of a space are private
abbrev pub private_entries : List (ℕ × Entry) → ℕ
private_entries space = count_by (λ e. not e.1.shared) space

-- In rising page each private entry gets a fresh frame of t's with the same bytes, and each shared
-- entry keeps its frame.
abbrev pub copied_space : World → ℕ → List (ℕ × Entry) → World × List (ℕ × Entry)
copied_space w t [] = (w, [])
copied_space w t (e ∷ space) =
    let next : World = if e.1.shared then w else with_fresh w t (page_of w.bytes e.1.frame) in
    let entry : Entry = if e.1.shared then e.1 else record e.1 { frame = lowest_free_frame w } in
    let rest : World × List (ℕ × Entry) = copied_space next t space in
    (rest.0, (e.0, entry) ∷ rest.1)

-- the number that the next process gets
abbrev pub next_process : World → ℕ
next_process w = length w.processes + 1

-- the child's thread: the caller's registers with 0 in a0, pc past the ecall and no reservation,
-- its mask and saved handlers
abbrev pub child_thread : World → Thread → Thread
child_thread w thread =
    ready_thread (next_process w) (released (answered 0 thread.registers)) thread.mask thread.saved

-- the child, with the caller's actions and descriptors and this space
abbrev pub child_process : Call → Holdings → List (ℕ × Entry) → Process
child_process c h space = record { parent = c.process; life = live (record h { space = space }) }

-- the world with the child of a caller that has these
abbrev pub with_child : Call → Holdings → Thread → World
with_child c h thread =
    let copy : World × List (ℕ × Entry) = copied_space c.world (next_thread c.world) h.space in
    let more : List Process = copy.0.processes ++ child_process c h copy.1 ∷ [] in
    record (with_new_thread copy.0 (child_thread c.world thread)) { processes = more }

-- whether no more processes can be made beside these: 32 live, or no more threads can be made
abbrev pub are_processes_full : List Process → List (Option Thread) → Bool
are_processes_full processes threads =
    nat_le 32 (length (all_holdings processes)) || are_threads_full threads

-- the world with the child, or the refusal: 11 where no more processes can be made, 12 where too
-- few frames are free
abbrev pub forked_by : Call → Option Holdings → Option Thread → Result World ℕ
forked_by c (Some h) (Some thread) =
    if are_processes_full c.world.processes c.world.threads then Err eagain
    else (if nat_lt (free_frames c.world) (private_entries h.space) then Err enomem
    else Ok (with_child c h thread))
forked_by c _ _ = Err eagain

-- the same for the caller, which lives
abbrev pub forked : Call → Result World ℕ
forked c = forked_by c (live_process c.world c.process) (thread_at c.world c.thread)

-- 4: A copy of the process with one thread; its number. No owner of an old frame changes.
abbrev pub fork : Service
fork c = replies (forked c) (next_process c.world) c

-- ---- 5: wait

-- the children of the caller's process that a0 names (0 names all) and that pass the test, in
-- rising number
abbrev pub children_where : (Process → Bool) → Call → List ℕ
children_where test c =
    filter (λ p. (c.a0 == 0) || (c.a0 == p))
    (numbers_of (λ process. is_child c.process process && test process) c.world.processes)

-- whatever it is
abbrev pub any_process : Process → Bool
any_process process = true

-- a process as its parent leaves it once it has collected it
abbrev pub collected_by : Process → Process
collected_by process = record process { life = ended (status_of process) true }

-- the world in which a process is collected
abbrev pub collected : World → ℕ → World
collected w p = record w { processes = changed collected_by w.processes p }

-- the status of the process of this number
abbrev pub status_at : World → ℕ → ℕ
status_at w p = elim (process_at w p) [ None ↦ 0 | Some process ↦ status_of process ]

-- what wait answers by the first child and the first that has ended
abbrev pub wait_by : Option ℕ → Option ℕ → Service
wait_by None _ c = refuses echild c
wait_by (Some any) None c = retries c
wait_by (Some any) (Some p) c = returns_two (collected c.world p) p (status_at c.world p) c

-- 5: The lowest ended child that a0 names is collected: its number and its status. Refusal 10 where
-- there is no child; it waits where none has ended.
abbrev pub wait : Service
wait c = wait_by (first_of (children_where any_process c)) (first_of (children_where has_ended c)) c
