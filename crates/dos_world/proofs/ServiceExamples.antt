-- What services answer in a small world, computed by the checker. What each comes to was worked out
-- by hand from its rule.
use Rattle.std.specs.Prelude.{ℕ, Bool, true, false, [], ◌∷◌, map, replicate, Some, None, ◌==◌}
use Rattle.std.specs.Prelude.{◌≡◌, refl}
use Rattle.std.specs.List.{list_all}
use Rattle.dos_world.specs.World.{World, live, ended, thread_at, live_threads, entry_at, owner_of}
use Rattle.dos_world.specs.World.{get, with_thread, blank, set, page_of}
use Rattle.dos_world.specs.Kernel.{minus, zero_page}
use Rattle.dos_world.specs.Services.{services}
use Rattle.dos_world.specs.Signals.{would_wait, ripen}
use Rattle.dos_world.specs.declared.Owner.TheVariants.{Free, Shared, Of}
use Rattle.dos_world.specs.declared.End.TheVariants.{Output}
use Rattle.dos_world.proofs.SmallWorld.{a_thread, a_process, world_with, small, served, goes_on}
use Rattle.dos_world.proofs.SmallWorld.{waiting, yielding, asking, way_of, after, registers_at}
use Rattle.dos_world.proofs.SmallWorld.{reply}

-- ---- any service

-- One of the budget is paid, the reservation is empty, and pc is past the ecall.
a_call_is_paid : thread_at (after (served small 1 20 0 0 0)) 1
    ≡ Some (record a_thread { budget = 4; registers = set (set (blank 0x10004) 17 20) 10 1 })
unfolding services
a_call_is_paid = refl

no_service_0 : reply 1 (served small 1 0 0 0 0) ≡ (goes_on, minus 38)
unfolding services
no_service_0 = refl

no_service_25 : reply 1 (served small 1 25 0 0 0) ≡ (goes_on, 0xFFFFFFDA)
unfolding services
no_service_25 = refl

-- ---- numbers

the_process_number : reply 2 (served small 2 20 9 9 9) ≡ (goes_on, 1)
unfolding services
the_process_number = refl

the_thread_number : reply 2 (served small 2 21 9 9 9) ≡ (goes_on, 2)
unfolding services
the_thread_number = refl

-- four rounds were run
the_round_number : reply 2 (served small 2 24 9 9 9) ≡ (goes_on, 5)
unfolding services
the_round_number = refl

a_yield : reply 1 (served small 1 23 9 9 9) ≡ (yielding, 0)
unfolding services
a_yield = refl

-- ---- the end of threads

-- the last thread of a process: its status is 0, its frames are free
abbrev alone : World
alone = after (served (world_with (replicate 4096 7) (a_process ∷ []) (Some a_thread ∷ [])) 1 1 0 0
    0)

the_last_thread_exits : alone.processes ≡ record { parent = 0; life = ended 0 false } ∷ []
unfolding services
the_last_thread_exits = refl

its_frames_are_free : alone.owners ≡ Free ∷ Free ∷ Free ∷ []
unfolding services
its_frames_are_free = refl

nobody_lives : live_threads alone ≡ []
unfolding services
nobody_lives = refl

-- one of two: its process lives, and its frame keeps its owner
one_of_two_exits : live_threads (after (served small 1 1 0 0 0)) ≡ 2 ∷ []
unfolding services
one_of_two_exits = refl

its_frame_stays : (after (served small 1 1 0 0 0)).owners ≡ Shared ∷ Of 1 ∷ Free ∷ []
unfolding services
its_frame_stays = refl

-- process_exit with 258: the status is 2, both threads are gone
an_exit_ends_all : (after (served small 2 2 258 0 0)).processes
    ≡ record { parent = 0; life = ended 2 false } ∷ []
unfolding services
an_exit_ends_all = refl

-- ---- pipes

-- the two lowest free descriptors
abbrev piped : World
piped = after (served small 1 6 0 0 0)

a_pipe_reads_at_3 : reply 1 (served small 1 6 0 0 0) ≡ (goes_on, 3)
unfolding services
a_pipe_reads_at_3 = refl

a_pipe_writes_at_4 : get (registers_at piped 1) 11 ≡ 4
unfolding services
a_pipe_writes_at_4 = refl

-- 5000 bytes asked for, 4096 written; then a byte more waits, until thread 2 has read one
abbrev full : World
full = after (served piped 1 8 4 0x11000 5000)

a_pipe_takes_4096 : reply 1 (served piped 1 8 4 0x11000 5000) ≡ (goes_on, 4096)
unfolding services
a_pipe_takes_4096 = refl

abbrev stuck : World
stuck = after (served full 1 8 4 0x11000 1)

a_full_pipe_waits : way_of (served full 1 8 4 0x11000 1) ≡ waiting
unfolding services
a_full_pipe_waits = refl

its_writer_would_wait : would_wait stuck 1 ≡ true
unfolding services
its_writer_would_wait = refl

-- thread 2 takes the page for its byte
abbrev drained : World
drained = after (served stuck 2 7 3 0x11000 1)

a_byte_is_read : reply 2 (served stuck 2 7 3 0x11000 1) ≡ (goes_on, 1)
unfolding services
a_byte_is_read = refl

the_page_is_granted : owner_of drained 1 ≡ Of 2
unfolding services
the_page_is_granted = refl

its_writer_goes_on : would_wait drained 1 ≡ false
unfolding services
its_writer_goes_on = refl

the_byte_goes_in : reply 1 (served (ripen drained) 1 8 4 0x11000 1) ≡ (goes_on, 1)
unfolding services
the_byte_goes_in = refl

-- reading: an empty pipe waits, and gives 0 where nobody can write
an_empty_pipe_waits : way_of (served piped 1 7 3 0x11000 1) ≡ waiting
unfolding services
an_empty_pipe_waits = refl

nobody_can_write : reply 1 (served (after (served piped 1 9 4 0 0)) 1 7 3 0x11000 1) ≡ (goes_on, 0)
unfolding services
nobody_can_write = refl

nobody_can_read : reply 1 (served (after (served piped 1 9 3 0 0)) 1 8 4 0x11000 1)
    ≡ (goes_on, minus 32)
unfolding services
nobody_can_read = refl

-- 9 before 14, and no byte needs no page
nothing_is_read : reply 1 (served piped 1 7 3 0x50000 0) ≡ (goes_on, 0)
unfolding services
nothing_is_read = refl

no_page_to_read_to : reply 1 (served piped 1 7 3 0x50000 1) ≡ (goes_on, minus 14)
unfolding services
no_page_to_read_to = refl

no_descriptor_to_read : reply 1 (served piped 1 7 4 0x50000 1) ≡ (goes_on, minus 9)
unfolding services
no_descriptor_to_read = refl

-- ---- descriptors

closed_once : reply 1 (served piped 1 9 3 0 0) ≡ (goes_on, 0)
unfolding services
closed_once = refl

closed_twice : reply 1 (served (after (served piped 1 9 3 0 0)) 1 9 3 0 0) ≡ (goes_on, minus 9)
unfolding services
closed_twice = refl

doubled : reply 1 (served small 1 10 1 0 0) ≡ (goes_on, 3)
unfolding services
doubled = refl

not_open : reply 1 (served small 1 10 5 0 0) ≡ (goes_on, minus 9)
unfolding services
not_open = refl

-- all 32 descriptors name the output
abbrev crowded : World
crowded = world_with (replicate 4096 7)
    (record {
      parent = 0;
      life =
          live (record {
            actions = replicate 31 0;
            descriptors = replicate 32 (Some Output);
            space = [];
          });
    } ∷ []) (Some a_thread ∷ [])

none_is_free : reply 1 (served crowded 1 10 1 0 0) ≡ (goes_on, minus 24)
unfolding services
none_is_free = refl

no_two_are_free : reply 1 (served crowded 1 6 0 0 0) ≡ (goes_on, minus 24)
unfolding services
no_two_are_free = refl

-- ---- memory

a_page_is_unmapped : (after (served small 1 14 0x11000 1 0)).owners ≡ Shared ∷ Free ∷ Free ∷ []
unfolding services
a_page_is_unmapped = refl

unmapped_twice : reply 1 (served (after (served small 1 14 0x11000 1 0)) 1 14 0x11000 1 0)
    ≡ (goes_on, minus 22)
unfolding services
unmapped_twice = refl

-- whether a frame of a world is zero
abbrev is_zero : World → ℕ → Bool
is_zero w frame = list_all (λ byte. byte == 0) (page_of w.bytes frame)

it_had_bytes : is_zero small 1 ≡ false
it_had_bytes = refl

an_unmapped_frame_is_zero : is_zero (after (served small 1 14 0x11000 1 0)) 1 ≡ true
unfolding services zero_page
an_unmapped_frame_is_zero = refl

-- two pages from 0x11000 on, one of which isn't mapped
partly_mapped : reply 1 (served small 1 14 0x11000 2 0) ≡ (goes_on, minus 22)
unfolding services
partly_mapped = refl

a_page_is_shared : entry_at (after (served small 1 15 0x11000 1 0)) 1 0x11000
    ≡ Some (record { frame = 1; write = true; exec = false; shared = true })
unfolding services
a_page_is_shared = refl

sharing_is_answered : reply 1 (served small 1 15 0x11000 1 0) ≡ (goes_on, 0)
unfolding services
sharing_is_answered = refl

-- a page of frame 2, which may be written and executed
a_page_is_mapped : entry_at (after (served small 1 13 0x12000 1 7)) 1 0x12000
    ≡ Some (record { frame = 2; write = true; exec = true; shared = false })
unfolding services zero_page
a_page_is_mapped = refl

its_frame_is_the_caller's : (after (served small 1 13 0x12000 1 7)).owners ≡ Shared ∷ Of 1 ∷ Of 1
    ∷ []
unfolding services zero_page
its_frame_is_the_caller's = refl

its_frame_is_zero : is_zero (after (served small 1 13 0x12000 1 7)) 2 ≡ true
unfolding services zero_page
its_frame_is_zero = refl

-- ---- futexes

-- the word at 0x11000 is 0x07070707
another_value : reply 1 (served small 1 11 0x11000 2 0) ≡ (goes_on, minus 11)
unfolding services
another_value = refl

-- the page is thread 1's, and its load by thread 2 makes it Shared, also where it is refused
its_page_is_granted : owner_of (after (served small 2 11 0x11000 2 0)) 1 ≡ Shared
unfolding services
its_page_is_granted = refl

no_word_there : reply 1 (served small 1 11 0 0 0) ≡ (goes_on, minus 14)
unfolding services
no_word_there = refl

no_word_at_all : reply 1 (served small 1 11 0x11002 0 0) ≡ (goes_on, minus 22)
unfolding services
no_word_at_all = refl

-- four threads; 2, 3 and 4 sleep in this order, and thread 1 wakes two
abbrev four : World
four = world_with (replicate 4096 7) (a_process ∷ []) (replicate 4 (Some a_thread))

abbrev three_sleep : World
three_sleep = after (served
    (after (served (after (served four 2 11 0x11000 0x07070707 0)) 3 11 0x11000 0x07070707
    0)) 4 11 0x11000 0x07070707 0)

the_queue : map (λ s. s.thread) three_sleep.sleepers ≡ 2 ∷ 3 ∷ 4 ∷ []
unfolding services
the_queue = refl

two_wake : reply 1 (served three_sleep 1 12 0x11000 2 0) ≡ (goes_on, 2)
unfolding services
two_wake = refl

one_sleeps_on : (after (served three_sleep 1 12 0x11000 2 0)).sleepers
    ≡ record { thread = 4; frame = 1; offset = 0 } ∷ []
unfolding services
one_sleeps_on = refl

-- thread 3 is ready with 0, and pc past its ecall
the_woken_go_on : thread_at (after (served three_sleep 1 12 0x11000 2 0)) 3
    ≡ Some (record a_thread {
      budget = 4;
      registers =
          set (set (set (set (blank 0x10004) 17 11) 10 0) 11 0x07070707) 12 0;
    })
unfolding services
the_woken_go_on = refl

nobody_wakes : reply 1 (served three_sleep 1 12 0x11000 0 0) ≡ (goes_on, 0)
unfolding services
nobody_wakes = refl

-- ---- signals

the_former_mask : reply 1 (served (after (served small 1 17 6 0 0)) 1 17 0xFFFFFFFF 0 0)
    ≡ (goes_on, 6)
unfolding services
the_former_mask = refl

-- bits 0 and 9 are dropped
the_new_mask : thread_at (after (served small 1 17 0xFFFFFFFF 0 0)) 1
    ≡ Some (record a_thread {
      budget = 4;
      mask = 0xFFFFFDFE;
      registers =
          set (set (blank 0x10004) 17 17) 10 0;
    })
unfolding services
the_new_mask = refl

no_such_signal : reply 1 (served small 1 19 1 32 0) ≡ (goes_on, minus 22)
unfolding services
no_such_signal = refl

no_such_process : reply 1 (served small 1 19 9 15 0) ≡ (goes_on, minus 3)
unfolding services
no_such_process = refl

-- 0 only tests
a_test_only : map (λ o. elim o as (λ _. ℕ) [ None ↦ 0 | Some thread ↦ thread.pending ])
    (after (served small 2 19 1 0 0)).threads ≡ 0 ∷ 0 ∷ []
unfolding services
a_test_only = refl

-- the lowest live thread has it
signal_15_is_pending : map (λ o. elim o as (λ _. ℕ) [ None ↦ 0 | Some thread ↦ thread.pending ])
    (after (served small 2 19 1 15 0)).threads ≡ 32768 ∷ 0 ∷ []
unfolding services
signal_15_is_pending = refl

-- Where nothing is saved the answer is -22, and pc stays at the ecall.
nothing_is_saved : thread_at (after (served small 1 18 0 0 0)) 1
    ≡ Some (record a_thread {
      budget = 4;
      registers =
          set (set (blank 0x10000) 17 18) 10 0xFFFFFFEA;
    })
unfolding services
nothing_is_saved = refl

-- the last saved come back whole, but for the reservation
abbrev in_handler : World
in_handler = with_thread small 1
    (λ thread. record thread {
      mask = 32768;
      saved =
          (record (set (blank 0x20000) 10 99) { held = Some 4 }, 2) ∷ [];
    })

a_handler_returns : thread_at (after (served in_handler 1 18 0 0 0)) 1
    ≡ Some (record a_thread { budget = 4; mask = 2; registers = set (blank 0x20000) 10 99 })
unfolding services
a_handler_returns = refl

-- ---- processes

no_child : reply 1 (served small 1 5 0 0 0) ≡ (goes_on, minus 10)
unfolding services
no_child = refl

-- a parent with a child that has ended with 9: its number and its status, and then there is no
-- child
abbrev parent : World
parent = world_with (replicate 4096 7)
    (a_process ∷ record { parent = 1; life = ended 9 false } ∷ []) (Some a_thread ∷ None ∷ [])

a_child_is_collected : reply 1 (served parent 1 5 0 0 0) ≡ (goes_on, 2)
unfolding services
a_child_is_collected = refl

with_its_status : get (registers_at (after (served parent 1 5 0 0 0)) 1) 11 ≡ 9
unfolding services
with_its_status = refl

only_once : reply 1 (served (after (served parent 1 5 0 0 0)) 1 5 0 0 0) ≡ (goes_on, minus 10)
unfolding services
only_once = refl

-- a child that was collected keeps its parent's number when the parent ends, and one that wasn't
-- has none
collected_keeps_its_parent : (after (served (after (served parent 1 5 0 0 0)) 1 2 0 0 0)).processes
    ≡ record { parent = 0; life = ended 0 false } ∷ record { parent = 1; life = ended 9 true } ∷ []
unfolding services
collected_keeps_its_parent = refl

uncollected_has_none : (after (served parent 1 2 0 0 0)).processes
    ≡ record { parent = 0; life = ended 0 false } ∷ record { parent = 0; life = ended 9 false } ∷ []
unfolding services
uncollected_has_none = refl

-- ---- the clock

the_shim_is_asked : way_of (served small 2 22 0 0 0) ≡ asking
unfolding services
the_shim_is_asked = refl
