-- What lawfulness alone doesn't keep: counterexamples, tested by the checker.
use Rattle.std.proofs.Common.{ℕ, ◌<◌, ◌≡◌, refl, true, false, List, [], ◌∷◌, Option, Some, None}
use Rattle.std.proofs.Common.{arith}
use Rattle.std.specs.Prelude.{replicate}
use Rattle.std.proofs.lemmas.Bool.{true≢false}
use Rattle.dos_world.specs.World.{World, Process, Thread, Sleeper, live, blank, set}
use Rattle.dos_world.specs.Kernel.{posted}
use Rattle.dos_world.specs.Play.{input, Outcome, gives, asks, over}
use Rattle.dos_world.specs.Calls.{Served, went, waits, yields, gone}
use Rattle.dos_world.specs.Services.{serve, services}
use Rattle.flat_machine.specs.Computing.{computing}
use Rattle.dos_world.specs.Lawful.{Lawful}
use Rattle.dos_world.specs.declared.End.TheVariants.{Input, Output, Error}
use Rattle.dos_world.specs.declared.Owner.TheVariants.{Free, Shared, Of}
use Rattle.dos_world.specs.declared.ThreadState.{ThreadState}
use Rattle.dos_world.specs.declared.ThreadState.TheVariants.{Ready, Asleep}
use Rattle.dos_world.proofs.LawfulTest.{lawful_by}
use Rattle.flat_machine.specs.Rest.{serial_of}

-- ---- a small world: page 0x10 is frame 0, an ecall, and page 0x11 is frame 1, zeros, which is
-- thread 1's

abbrev caller : ThreadState → ℕ → ℕ → ℕ → ℕ → Thread
caller state number a0 a1 a2 =
    record {
      process = 1;
      registers =
          set (set (set (set (blank 0x10000) 17 number) 10 a0) 11 a1) 12 a2;
      budget = 5;
      state =
          state;
      pending = 0;
      mask = 0;
      saved = [];
    }

abbrev parent : Process
parent = record {
  parent = 0;
  life = live (record {
    actions = replicate 31 0;
    descriptors = Some Input ∷ Some Output ∷ Some Error ∷ replicate 29 None;
    space =
        (0x10, record { frame = 0; write = false; exec = true; shared = false })
        ∷ (0x11, record { frame = 1; write = true; exec = false; shared = false }) ∷ [];
  });
}

abbrev world : List Process → List (Option Thread) → List Sleeper → World
world processes threads sleepers = record {
  bytes = 0x73 ∷ replicate 65535 0;
  owners = Shared ∷ Of 1 ∷ replicate 14 Free;
  processes = processes;
  threads = threads;
  pipes = replicate 64 [];
  sleepers = sleepers;
  rounds = 4;
  quantum = 1000;
  output = [];
  error = [];
}

-- the world after; where the shim is asked, this one
abbrev after : World → Outcome Served → World
after w (gives (went u) rest) = u
after w (gives (waits u) rest) = u
after w (gives (yields u) rest) = u
after w (gives (gone u) rest) = u
after w (asks question output error) = w

-- ---- 2. A thread that sleeps calls futex_wait, and stands in the queue twice.

abbrev asleep : World
asleep =
    world (parent ∷ []) (Some (caller Asleep 11 0x11000 0 0) ∷ [])
    (record { thread = 1; frame = 1; offset = 0 } ∷ [])

asleep_is_lawful : Lawful asleep
asleep_is_lawful = lawful_by asleep refl

asleep_breaks : Lawful (after asleep (serve asleep 1 [])) → ⊥
unfolding services
asleep_breaks l = let twice : 2 ≡ 1 = l.threads.asleep 1 in absurd (omega (arith, twice))

-- ---- 3. A ready thread that is a starter twice does so, too.

abbrev ready : World
ready = world (parent ∷ []) (Some (caller Ready 11 0x11000 0 0) ∷ []) []

ready_is_lawful : Lawful ready
ready_is_lawful = lawful_by ready refl

abbrev after_phase : Outcome World → World
after_phase (gives w rest) = w
after_phase (asks question output error) = ready

twice_breaks : Lawful (after_phase (over [] (serial_of ready (1 ∷ 1 ∷ [])))) → ⊥
unfolding computing
twice_breaks l = let twice : 2 ≡ 1 = l.threads.asleep 1 in absurd (omega (arith, twice))

-- ---- 4. The shim gives a byte of 256.

abbrev reader : Process
reader = record {
  parent = 0;
  life = live (record {
    actions = replicate 31 0;
    descriptors = Some Input ∷ Some Output ∷ Some Error ∷ replicate 29 None;
    space = (0x11, record { frame = 0; write = true; exec = false; shared = false }) ∷ [];
  });
}

abbrev reading : World
reading =
    record (world (reader ∷ []) (Some (caller Ready 7 0 0x11000 1) ∷ []) [])
    { owners = Of 1 ∷ replicate 15 Free }

reading_is_lawful : Lawful reading
reading_is_lawful = lawful_by reading refl

byte_breaks : Lawful (after reading (serve reading 1 (input (256 ∷ []) ∷ []))) → ⊥
unfolding services
byte_breaks l =
    let byte : 256 < 256 = l.frames.bytes.1 0 0 (omega (arith, l.frames.bytes.0)) in
    omega (arith, byte)

-- ---- 5. The shim posts signal 0.

post_breaks : Lawful (posted ready 1 0) → ⊥
post_breaks l = let bit : true ≡ false = (l.threads.ranges 1).pending.1 in true≢false bit
