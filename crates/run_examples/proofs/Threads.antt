-- Small programs, computed by the checker: several threads and processes, waits and signals. What
-- they come to was worked out by hand.
use Rattle.std.specs.Prelude.{[], ◌∷◌, ◌++◌, replicate, Some, None, ◌≡◌, refl, codes}
use Rattle.dos_world.specs.Play.{posts}
use Rattle.dos_world.specs.declared.Question.TheVariants.{Signals, End}
use Rattle.dos_world.specs.declared.Ending.TheVariants.{Done, Stalled}
use Rattle.flat_machine.specs.Computing.{computing}
use Rattle.elf_image.specs.Image.{Image}
use Rattle.flat_machine.specs.Machine.{machine}
use Rattle.run_examples.proofs.Programs.{program, with_frames, with_quantum, ended, without_work}

-- Two threads load one word, yield, add 1 and store: one addition is lost, always.
two_threads_lose_an_addition : without_work
    (machine (program
    (0x00300893 ∷ 0x00000517 ∷ 0x01450513 ∷ 0x00000073 ∷ 0x01700893 ∷ 0x00000073
    ∷ 0x00000417 ∷ 0x03842283 ∷ 0x01700893 ∷ 0x00000073 ∷ 0x00128293
    ∷ 0x02542C23 ∷ 0x00000073 ∷ 0x00800893 ∷ 0x00100513 ∷ 0x03840593 ∷ 0x00100613 ∷ 0x00000073
    ∷ 0x00100893 ∷ 0x00000073 ∷ 0x00000030 ∷ []) ∷ []) (with_frames 17)
    (posts [] ∷ posts [] ∷ posts [] ∷ posts [] ∷ []))
    ≡ ended (Signals 1 ∷ Signals 2 ∷ Signals 3 ∷ Signals 4 ∷ End Done 4 ∷ []) (codes "11")
    (Some 0 ∷ []) Done 4
unfolding computing
two_threads_lose_an_addition = refl

-- futex_wait on a word that is as expected
abbrev pub sleeps : Image
sleeps = program (0x00B00893 ∷ 0x00000517 ∷ 0x00052583 ∷ 0x00000073 ∷ 0x00200893 ∷ 0x00000073 ∷ [])

nobody_is_ready : without_work
    (machine (sleeps ∷ []) (with_frames 17) (posts [] ∷ posts [] ∷ []))
    ≡ ended (Signals 1 ∷ Signals 2 ∷ End Stalled 1 ∷ []) [] (None ∷ []) Stalled 1
unfolding computing
nobody_is_ready = refl

a_signal_ends_a_sleeper : without_work
    (machine (sleeps ∷ []) (with_frames 17)
    (posts [] ∷ posts (record { pid = 1; signal = 15 } ∷ []) ∷ []))
    ≡ ended (Signals 1 ∷ Signals 2 ∷ End Done 1 ∷ []) [] (Some 143 ∷ []) Done 1
unfolding computing
a_signal_ends_a_sleeper = refl

-- sig_handler of 15, then futex_wait, then exit with its answer; the handler is sig_return
a_handler_interrupts_a_wait : without_work
    (machine (program
    (0x01000893 ∷ 0x00F00513 ∷ 0x00000597 ∷ 0x02458593 ∷ 0x00000073 ∷ 0x00B00893
    ∷ 0x00000517 ∷ 0x00052583 ∷ 0x00000073 ∷ 0x00200893 ∷ 0x00000073
    ∷ 0x01200893 ∷ 0x00000073 ∷ []) ∷ []) (with_frames 17)
    (posts [] ∷ posts (record { pid = 1; signal = 15 } ∷ []) ∷ []))
    ≡ ended (Signals 1 ∷ Signals 2 ∷ End Done 2 ∷ []) [] (Some 252 ∷ []) Done 2
unfolding computing
a_handler_interrupts_a_wait = refl

-- lr.w, then sc.w on the same word in one part: it passes
a_reservation_holds : without_work
    (machine (program (0x00000297 ∷ 0x1002A32F ∷ 0x1862A52F ∷ 0x00200893 ∷ 0x00000073 ∷ [])
    ∷ []) (with_frames 17) (posts [] ∷ []))
    ≡ ended (Signals 1 ∷ End Done 1 ∷ []) [] (Some 0 ∷ []) Done 1
unfolding computing
a_reservation_holds = refl

-- the same with a part's end between them: it fails
a_part_empties_the_reservation : without_work
    (machine (program
    ((0x00000297 ∷ 0x1002A32F ∷ []) ++ replicate 14 0x00000013
    ++ (0x1862A52F ∷ 0x00200893 ∷ 0x00000073 ∷ [])) ∷ []) (with_quantum 16 17)
    (posts [] ∷ posts [] ∷ []))
    ≡ ended (Signals 1 ∷ Signals 2 ∷ End Done 2 ∷ []) [] (Some 1 ∷ []) Done 2
unfolding computing
a_part_empties_the_reservation = refl

-- fork; the parent waits and exits with the child's status, the child exits with 5
abbrev pub forks : Image
forks = program (0x00400893 ∷ 0x00000073 ∷ 0x00050E63 ∷ 0x00500893 ∷ 0x00000513 ∷ 0x00000073
    ∷ 0x00058513 ∷ 0x00200893 ∷ 0x00000073 ∷ 0x00500513 ∷ 0x00200893 ∷ 0x00000073 ∷ [])

a_parent_collects_its_child : without_work
    (machine (forks ∷ []) (with_frames 34) (posts [] ∷ posts [] ∷ posts [] ∷ []))
    ≡ ended (Signals 1 ∷ Signals 2 ∷ Signals 3 ∷ End Done 3 ∷ []) [] (Some 5 ∷ Some 5 ∷ []) Done 3
unfolding computing
a_parent_collects_its_child = refl

-- thread_new until it is refused: 63 threads more, and then -11
threads_run_out : without_work
    (machine (program
    (0x00000417 ∷ 0x02040413 ∷ 0x00300893 ∷ 0x00040513 ∷ 0x00000073 ∷ 0xFE055AE3
    ∷ 0x00200893 ∷ 0x00000073 ∷ 0x0000006F ∷ []) ∷ []) (with_frames 17) (posts [] ∷ []))
    ≡ ended (Signals 1 ∷ End Done 1 ∷ []) [] (Some 245 ∷ []) Done 1
unfolding computing
threads_run_out = refl
