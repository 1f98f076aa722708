-- A small world for worked examples: one process with two pages in three frames, and some threads.
use Rattle.std.specs.Prelude.{ℕ, true, false, List, [], ◌∷◌, ◌++◌, replicate, Option, Some, None}
use Rattle.dos_world.specs.World.{World, Process, Thread, Entry, Registers, live, thread_at, blank}
use Rattle.dos_world.specs.World.{get, set, with_held, with_registers}
use Rattle.dos_world.specs.Play.{Outcome, gives, asks}
use Rattle.dos_world.specs.Calls.{Served, went, waits, yields, gone}
use Rattle.dos_world.specs.Services.{serve}
use Rattle.dos_world.specs.declared.Owner.TheVariants.{Free, Shared, Of}
use Rattle.dos_world.specs.declared.End.TheVariants.{Input, Output, Error}
use Rattle.dos_world.specs.declared.ThreadState.TheVariants.{Ready}

-- a ready thread of process 1 at 0x10000, with a budget of 5 and a reservation
abbrev pub a_thread : Thread
a_thread = record {
  process = 1;
  registers = with_held (blank 0x10000) (Some 0x11000);
  budget = 5;
  state = Ready;
  pending = 0;
  mask = 0;
  saved = [];
}

-- page 0x10 is frame 0 and may be executed, page 0x11 is frame 1 and may be written
abbrev pub two_pages : List (ℕ × Entry)
two_pages =
    (0x10, record { frame = 0; write = false; exec = true; shared = false }) ∷
    (0x11, record { frame = 1; write = true; exec = false; shared = false }) ∷
    []

-- input, output, error, and 29 that are free
abbrev pub a_process : Process
a_process = record {
  parent = 0;
  life =
      live (record {
        actions = replicate 31 0;
        descriptors = Some Input ∷ Some Output ∷ Some Error
            ∷ replicate 29 None;
        space = two_pages;
      });
}

-- with these bytes in frame 1 (4096 of them), this process and these threads; frame 1 is thread 1's
abbrev pub world_with : List ℕ → List Process → List (Option Thread) → World
world_with page processes threads = record {
  bytes = replicate 4096 0 ++ page ++ replicate 4096 0;
  owners = Shared ∷ Of 1 ∷ Free ∷ [];
  processes = processes;
  threads = threads;
  pipes = replicate 64 [];
  sleepers = [];
  rounds = 4;
  quantum = 1000;
  output = [];
  error = [];
}

-- with one process and two threads of it
abbrev pub small : World
small = world_with (replicate 4096 7) (a_process ∷ []) (Some a_thread ∷ Some a_thread ∷ [])

-- ---- serving

-- a7 and a0 to a2
abbrev pub arguments : ℕ → ℕ → ℕ → ℕ → Registers → Registers
arguments number a0 a1 a2 r = set (set (set (set r 17 number) 10 a0) 11 a1) 12 a2

-- what is served for t where it calls so, with no answer of the shim
abbrev pub served : World → ℕ → ℕ → ℕ → ℕ → ℕ → Outcome Served
served w t number a0 a1 a2 = serve (with_registers w t (arguments number a0 a1 a2)) t []

-- how a thread is left
pub data Way : Type 0 where
  goes_on waiting yielding leaving asking : Way

abbrev pub way_of : Outcome Served → Way
way_of (gives (went w) rest) = goes_on
way_of (gives (waits w) rest) = waiting
way_of (gives (yields w) rest) = yielding
way_of (gives (gone w) rest) = leaving
way_of (asks question output error) = asking

-- the world after; where the shim is asked there is none, and no example looks at it
abbrev pub after : Outcome Served → World
after (gives (went w) rest) = w
after (gives (waits w) rest) = w
after (gives (yields w) rest) = w
after (gives (gone w) rest) = w
after (asks question output error) = small

-- t's registers
abbrev pub registers_at : World → ℕ → Registers
registers_at w t = elim (thread_at w t) [ None ↦ blank 0 | Some thread ↦ thread.registers ]

-- how t is left, and a0
abbrev pub reply : ℕ → Outcome Served → Way × ℕ
reply t o = (way_of o, get (registers_at (after o) t) 10)
