-- What a service is called with and how it answers. Arguments and answers are in the registers of
-- the ABI's calls (RISC-V ELF psABI, "Integer register convention"); the rest is this project's
-- own.
use Rattle.std.specs.Prelude.{ℕ, ◌-◌, Some, None, Result, Ok, Err}
use Rattle.dos_world.specs.World.{World, Thread, thread_at, with_thread, with_registers, in_state}
use Rattle.dos_world.specs.World.{get, released}
use Rattle.dos_world.specs.Kernel.{minus, answered, answered_two}
use Rattle.dos_world.specs.Play.{Play, Answer, done, ask}
use Rattle.dos_world.specs.declared.Question.{Question}
use Rattle.dos_world.specs.declared.ThreadState.TheVariants.{Retry}

-- How a service leaves its thread: it goes on; it waits; its part in this round is over; it is
-- gone. With the world after it.
pub data Served : Type 0 where
  went waits yields gone : World → Served

-- A call: the world in which it is paid, its thread and process, and its arguments in a0 to a2.
pub record Call : Type 0 where
  pub world : World
  pub thread : ℕ
  pub process : ℕ
  pub a0 : ℕ
  pub a1 : ℕ
  pub a2 : ℕ

-- what a service does for a call; it may ask the shim
abbrev pub Service : Type 0
Service = Call → Play Served

-- A service costs one of the budget, and every ecall empties the reservation.
abbrev pub charged : Thread → Thread
charged thread = record thread { budget = thread.budget - 1; registers = released thread.registers }

-- t's call, paid for: a0, a1 and a2 are x10, x11 and x12
abbrev pub call_of : World → ℕ → Thread → Call
call_of w t thread = record {
  world = with_thread w t charged;
  thread = t;
  process = thread.process;
  a0 = get thread.registers 10;
  a1 = get thread.registers 11;
  a2 = get thread.registers 12;
}

-- the mask of the calling thread
abbrev pub mask_of : Call → ℕ
mask_of c = elim (thread_at c.world c.thread) [ None ↦ 0 | Some thread ↦ thread.mask ]

-- ---- asking

-- The shim is asked, and what follows goes by its answer.
abbrev pub asks_shim : Question → (Call → Answer → Play Served) → Service
asks_shim question by_answer c = ask question c.world.output c.world.error (by_answer c)

-- ---- answers

-- It goes on in this world, with a value in a0.
abbrev pub returns_in : World → ℕ → Service
returns_in w value c = done (went (with_registers w c.thread (answered value)))

-- It goes on, and all but a0 and pc stands.
abbrev pub returns : ℕ → Service
returns value c = returns_in c.world value c

-- It goes on in this world, with values in a0 and a1.
abbrev pub returns_two : World → ℕ → ℕ → Service
returns_two w first second c = done (went (with_registers w c.thread (answered_two first second)))

-- A refusal answers minus the error's number, and changes nothing else but pc and what every call
-- pays.
abbrev pub refuses : ℕ → Service
refuses number c = returns (minus number) c

-- the refusal in a world in which a page has been granted already
abbrev pub refuses_in : World → ℕ → Service
refuses_in w number c = returns_in w (minus number) c

-- a world with this answer in a0, or a refusal
abbrev pub replies : Result World ℕ → ℕ → Service
replies (Ok w) value c = returns_in w value c
replies (Err number) value c = refuses number c

-- Its ecall runs again once it would not wait.
abbrev pub retries : Service
retries c = done (waits (with_thread c.world c.thread (in_state Retry)))
