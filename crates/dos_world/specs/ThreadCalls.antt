-- The services of a thread: thread_exit, thread_new, get_tid, yield. This project's own; error
-- numbers are chosen after Linux's.
use Rattle.std.specs.Prelude.{ℕ, ◌+◌, ◌%◌, Bool, not, ◌||◌, List, [], ◌∷◌, ◌++◌, length, Option}
use Rattle.std.specs.Prelude.{Some, is_some, ◌==◌, nat_le, if◌then◌else◌}
use Rattle.dos_world.specs.Errors.{eagain, einval}
use Rattle.dos_world.specs.Numbered.{numbers_of}
use Rattle.dos_world.specs.World.{World, Thread, Registers, code_unit, with_registers, set, blank}
use Rattle.dos_world.specs.Kernel.{answered, thread_ended}
use Rattle.dos_world.specs.Play.{done}
use Rattle.dos_world.specs.Calls.{Service, gone, yields, mask_of, returns, returns_in, refuses}
use Rattle.dos_world.specs.declared.ThreadState.TheVariants.{Ready}

-- 1: The thread is gone. The last thread of a process ends it with status 0.
abbrev pub thread_exit : Service
thread_exit c = done (gone (thread_ended c.world c.process c.thread))

-- whether no more threads can be made beside these: 64 live, or number 65535 was given
abbrev pub are_threads_full : List (Option Thread) → Bool
are_threads_full threads =
    nat_le 64 (length (numbers_of is_some threads)) || nat_le 65535 (length threads)

-- the number that the next thread gets
abbrev pub next_thread : World → ℕ
next_thread w = length w.threads + 1

-- the world with one thread more
abbrev pub with_new_thread : World → Thread → World
with_new_thread w thread = record w { threads = w.threads ++ Some thread ∷ [] }

-- A thread that begins: ready, with no budget and nothing pending.
abbrev pub ready_thread : ℕ → Registers → ℕ → List (Registers × ℕ) → Thread
ready_thread process registers mask saved =
    record {
      process = process;
      registers = registers;
      budget = 0;
      state = Ready;
      pending = 0;
      mask = mask;
      saved = saved;
    }

-- pc, stack pointer (x2) and argument (x10) of a new thread; all other registers are 0
abbrev pub new_registers : ℕ → ℕ → ℕ → Registers
new_registers pc sp argument = set (set (blank pc) 2 sp) 10 argument

-- 3: A new thread at a0, with stack a1 and argument a2, and the caller's mask; its number.
-- Refusals: 22 where a0 is no place for an instruction, 11 where no more threads can be made.
abbrev pub thread_new : Service
thread_new c =
    let registers : Registers = new_registers c.a0 c.a1 c.a2 in
    let thread : Thread = ready_thread c.process registers (mask_of c) [] in
    if not (c.a0 % code_unit == 0) then refuses einval c
    else (if are_threads_full c.world.threads then refuses eagain c
    else returns_in (with_new_thread c.world thread) (next_thread c.world) c)

-- 21: the thread's number
abbrev pub get_tid : Service
get_tid c = returns c.thread c

-- 23: The answer is 0, and the thread's part in this round is over.
abbrev pub yield : Service
yield c = done (yields (with_registers c.world c.thread (answered 0)))
