-- Small programs in the buffered scheme, computed by the checker. What they come to was worked out
-- by hand.
use Rattle.std.specs.Prelude.{[], ◌∷◌, ◌++◌, replicate, Some, ◌≡◌, refl, codes}
use Rattle.dos_world.specs.Play.{posts}
use Rattle.dos_world.specs.declared.Question.TheVariants.{Signals, End}
use Rattle.dos_world.specs.declared.Ending.TheVariants.{Done}
use Rattle.flat_machine.specs.Computing.{computing}
use Rattle.elf_image.specs.Image.{Image}
use Rattle.flat_machine.specs.Machine.{machine, machine_b}
use Rattle.run_examples.proofs.Programs.{program, with_frames, ended, without_work}

-- Two threads each store 1 to a flag of their own and print the other's.
abbrev pub two_flags : Image
two_flags = program (
    (0x00300893 ∷ 0x00000517 ∷ 0x01850513 ∷ 0x00400613 ∷ 0x00000073 ∷ 0x01700893 ∷ 0x00000073
    ∷ 0x00000417 ∷ 0x00A402B3 ∷ 0x00100313 ∷ 0x0462A023 ∷ 0x00454393 ∷ 0x007403B3 ∷ 0x0403A383
    ∷ 0x03038393 ∷ 0x0472A423 ∷ 0x04828593 ∷ 0x00800893 ∷ 0x00100513 ∷ 0x00100613 ∷ 0x00000073
    ∷ 0x00100893 ∷ 0x00000073 ∷ []) ++ replicate 4 0)

-- In the ownership scheme the second thread sees the first one's flag.
one_flag_is_seen : without_work
    (machine (two_flags ∷ []) (with_frames 17) (posts [] ∷ posts [] ∷ []))
    ≡ ended (Signals 1 ∷ Signals 2 ∷ End Done 2 ∷ []) (codes "01") (Some 0 ∷ []) Done 2
unfolding computing
one_flag_is_seen = refl

-- In the buffered scheme neither sees the other's.
no_flag_is_seen : without_work
    (machine_b (two_flags ∷ []) (with_frames 17) (posts [] ∷ posts [] ∷ []))
    ≡ ended (Signals 1 ∷ Signals 2 ∷ End Done 2 ∷ []) (codes "00") (Some 0 ∷ []) Done 2
unfolding computing
no_flag_is_seen = refl

-- Two threads load one word, yield, add 1 and store: one addition is lost.
two_threads_lose_an_addition : without_work
    (machine_b (program
    (0x00300893 ∷ 0x00000517 ∷ 0x01450513 ∷ 0x00000073 ∷ 0x01700893 ∷ 0x00000073
    ∷ 0x00000417 ∷ 0x03842283 ∷ 0x01700893 ∷ 0x00000073 ∷ 0x00128293
    ∷ 0x02542C23 ∷ 0x00000073 ∷ 0x00800893 ∷ 0x00100513 ∷ 0x03840593 ∷ 0x00100613 ∷ 0x00000073
    ∷ 0x00100893 ∷ 0x00000073 ∷ 0x00000030 ∷ []) ∷ []) (with_frames 17)
    (posts [] ∷ posts [] ∷ posts [] ∷ posts [] ∷ []))
    ≡ ended (Signals 1 ∷ Signals 2 ∷ Signals 3 ∷ Signals 4 ∷ End Done 4 ∷ []) (codes "11")
    (Some 0 ∷ []) Done 4
unfolding computing
two_threads_lose_an_addition = refl

-- A thread stores over its own next instruction, and runs what it stored: exit with 9 and not 1.
stored_code_is_run : without_work
    (machine_b (program
    (0x00900337 ∷ 0x51330313 ∷ 0x00000297 ∷ 0x0062A423 ∷ 0x00100513 ∷ 0x00200893 ∷ 0x00000073 ∷ [])
    ∷ []) (with_frames 17) (posts [] ∷ []))
    ≡ ended (Signals 1 ∷ End Done 1 ∷ []) [] (Some 9 ∷ []) Done 1
unfolding computing
stored_code_is_run = refl

-- lr.w and sc.w claim, so both are done in the serial part: the sc.w passes.
claims_are_serial : without_work
    (machine_b (program (0x00000297 ∷ 0x1002A32F ∷ 0x1862A52F ∷ 0x00200893 ∷ 0x00000073 ∷ [])
    ∷ []) (with_frames 17) (posts [] ∷ []))
    ≡ ended (Signals 1 ∷ End Done 1 ∷ []) [] (Some 0 ∷ []) Done 1
unfolding computing
claims_are_serial = refl
