-- The signal point and sig_handler in a small world, computed by the checker. What each comes to
-- was worked out by hand from its rule.
use Rattle.std.specs.Prelude.{ℕ, false, [], ◌∷◌, replicate, slice_set, Some, None, ◌≡◌, refl}
use Rattle.dos_world.specs.World.{World, Process, Thread, live, ended, thread_at, blank, set}
use Rattle.dos_world.specs.World.{live_threads}
use Rattle.dos_world.specs.Kernel.{minus}
use Rattle.dos_world.specs.Services.{services}
use Rattle.dos_world.specs.Signals.{signal_turn, signalled}
use Rattle.dos_world.specs.declared.ThreadState.TheVariants.{Retry}
use Rattle.dos_world.proofs.SmallWorld.{a_thread, two_pages, world_with, small, served, goes_on}
use Rattle.dos_world.proofs.SmallWorld.{after, reply}

-- a process whose action for signal 15 is this one
abbrev acting : ℕ → Process
acting action = record {
  parent = 0;
  life =
      live (record {
        actions = slice_set (replicate 31 0) 14 action;
        descriptors =
            replicate 32 None;
        space = two_pages;
      });
}

-- a thread that waits, with signal 15 pending
abbrev waits_with_15 : Thread
waits_with_15 = record a_thread { state = Retry; pending = 32768 }

-- a world of such a process, with this one thread
abbrev one : ℕ → Thread → World
one action thread = world_with (replicate 4096 7) (acting action ∷ []) (Some thread ∷ [])

-- ignored: it is cleared, and the wait goes on
an_ignored_signal : thread_at (signal_turn (one 1 waits_with_15) 1) 1
    ≡ Some (record waits_with_15 { pending = 0 })
an_ignored_signal = refl

-- a handler: -4 and pc past the ecall are saved; the signal is masked; the reservation stands
a_handler_begins : thread_at (signal_turn (one 0x20000 waits_with_15) 1) 1 ≡ Some (record a_thread {
  registers = record (set (blank 0x20000) 10 15) { held = Some 0x11000 };
  mask = 32768;
  saved = (record (set (blank 0x10004) 10 0xFFFFFFFC) { held = Some 0x11000 }, 0) ∷ [];
})
a_handler_begins = refl

-- four are saved already: the signal stays pending, and the wait goes on
abbrev deep : Thread
deep = record waits_with_15 { saved = replicate 4 (blank 0, 0) }

a_fifth_stays_pending : thread_at (signal_turn (one 0x20000 deep) 1) 1 ≡ Some deep
a_fifth_stays_pending = refl

-- masked: nothing happens
a_masked_signal : thread_at (signal_turn (one 0 (record waits_with_15 { mask = 32768 })) 1) 1
    ≡ Some (record waits_with_15 { mask = 32768 })
a_masked_signal = refl

-- the default of 15 ends the process with 143; signal 9 ends it with 137 before 2 is looked at
by_15 : (signal_turn (one 0 waits_with_15) 1).processes
    ≡ record { parent = 0; life = ended 143 false } ∷ []
by_15 = refl

by_9 : (signal_turn (one 1 (record a_thread { pending = 516; mask = 4 })) 1).processes
    ≡ record { parent = 0; life = ended 137 false } ∷ []
by_9 = refl

-- 17 is dropped
by_17 : thread_at (signal_turn (one 0 (record waits_with_15 { pending = 131072 })) 1) 1
    ≡ Some (record waits_with_15 { pending = 0 })
by_17 = refl

-- a post to a process that doesn't live is passed over
nobody_there : live_threads (signalled small (record { pid = 7; signal = 9 } ∷ [])) ≡ 1 ∷ 2 ∷ []
nobody_there = refl

-- ---- sig_handler

signal_9_has_no_action : reply 1 (served small 1 16 9 1 0) ≡ (goes_on, minus 22)
unfolding services
signal_9_has_no_action = refl

signal_0_is_none : reply 1 (served small 1 16 0 1 0) ≡ (goes_on, minus 22)
unfolding services
signal_0_is_none = refl

no_such_action : reply 1 (served small 1 16 15 0xF0000000 0) ≡ (goes_on, minus 22)
unfolding services
no_such_action = refl

no_place_for_a_handler : reply 1 (served small 1 16 15 0x10003 0) ≡ (goes_on, minus 22)
unfolding services
no_place_for_a_handler = refl

between_two_words : reply 1 (served small 1 16 15 0x10002 0) ≡ (goes_on, 0)
unfolding services
between_two_words = refl

the_former_action : reply 1 (served (after (served small 1 16 15 0xEFFFFFFC 0)) 1 16 15 0 0)
    ≡ (goes_on, 0xEFFFFFFC)
unfolding services
the_former_action = refl
