-- A small program whose threads sleep and are woken: futex_wake and get_tid. Computed by the
-- checker; what they come to was worked out by hand.
use Rattle.std.specs.Prelude.{[], ◌∷◌, Some, ◌≡◌, refl}
use Rattle.dos_world.specs.Play.{posts}
use Rattle.dos_world.specs.declared.Question.TheVariants.{Signals, End}
use Rattle.dos_world.specs.declared.Ending.TheVariants.{Done}
use Rattle.flat_machine.specs.Computing.{computing}
use Rattle.elf_image.specs.Image.{Image}
use Rattle.flat_machine.specs.Machine.{machine}
use Rattle.run_examples.proofs.Programs.{program, with_frames, ended, without_work}

-- The first thread wakes two others, one in round 3 and one in round 4; each goes on in the round
-- after.
abbrev wakes_two : Image
wakes_two = program (
    -- the answers stand at s0, 0x10400, and the word at s0 + 32 is 0
    0x00010437 ∷ 0x40040413 ∷  -- lui s0, 0x10; addi s0, s0, 0x400
    -- thread_new(sleeper, 0, 0): 2
    0x00300893 ∷ 0x00010537 ∷ 0x0BC50513 ∷ 0x00000073 ∷ 0x00A40023
    ∷  -- addi a7, x0, 3; lui a0, 0x10; addi a0, a0, sleeper; ecall; sb a0, 0(s0)
    -- the same again: 3
    0x00010537 ∷ 0x0BC50513 ∷ 0x00000073 ∷ 0x00A400A3
    ∷  -- lui a0, 0x10; addi a0, a0, sleeper; ecall; sb a0, 1(s0)
    -- yield; round 1 is over, and the two sleep in round 2
    0x01700893 ∷ 0x00000073 ∷  -- addi a7, x0, 23; ecall
    -- futex_wake(s0 + 32, 1): 0, for nobody sleeps yet
    0x00C00893 ∷ 0x02040513 ∷ 0x00100593 ∷ 0x00000073 ∷ 0x00A40123
    ∷  -- addi a7, x0, 12; addi a0, s0, 32; addi a1, x0, 1; ecall; sb a0, 2(s0)
    -- yield
    0x01700893 ∷ 0x00000073 ∷  -- addi a7, x0, 23; ecall
    -- futex_wake(s0 + 32, 1): 1, thread 2
    0x00C00893 ∷ 0x02040513 ∷ 0x00000073 ∷ 0x00A401A3
    ∷  -- addi a7, x0, 12; addi a0, s0, 32; ecall; sb a0, 3(s0)
    -- yield
    0x01700893 ∷ 0x00000073 ∷  -- addi a7, x0, 23; ecall
    -- futex_wake(s0 + 32, 9): 1, thread 3
    0x00C00893 ∷ 0x02040513 ∷ 0x00900593 ∷ 0x00000073 ∷ 0x00A40223
    ∷  -- addi a7, x0, 12; addi a0, s0, 32; addi a1, x0, 9; ecall; sb a0, 4(s0)
    -- the same again: 0
    0x02040513 ∷ 0x00000073 ∷ 0x00A402A3 ∷  -- addi a0, s0, 32; ecall; sb a0, 5(s0)
    -- futex_wake(s0 + 34, 9): -22
    0x02240513 ∷ 0x00000073 ∷ 0x00A40323 ∷  -- addi a0, s0, 34; ecall; sb a0, 6(s0)
    -- futex_wake(0, 9): -14
    0x00000513 ∷ 0x00000073 ∷ 0x00A403A3 ∷  -- addi a0, x0, 0; ecall; sb a0, 7(s0)
    -- write(1, s0, 8)
    0x00800893 ∷ 0x00100513 ∷ 0x00040593 ∷ 0x00800613 ∷ 0x00000073
    ∷  -- addi a7, x0, 8; addi a0, x0, 1; addi a1, s0, 0; addi a2, x0, 8; ecall
    -- thread_exit
    0x00100893 ∷ 0x00000073 ∷  -- addi a7, x0, 1; ecall
    -- the sleepers
    0x00010437 ∷ 0x40040413 ∷  -- sleeper: lui s0, 0x10; addi s0, s0, 0x400
    -- futex_wait(s0 + 32, 0): 0 as it wakes
    0x00B00893 ∷ 0x02040513 ∷ 0x00000593 ∷ 0x00000073 ∷ 0x02A40423
    ∷  -- addi a7, x0, 11; addi a0, s0, 32; addi a1, x0, 0; ecall; sb a0, 40(s0)
    -- get_tid: 2 or 3
    0x01500893 ∷ 0x00000073 ∷ 0x02A404A3 ∷  -- addi a7, x0, 21; ecall; sb a0, 41(s0)
    -- write(1, s0 + 40, 2)
    0x00800893 ∷ 0x00100513 ∷ 0x02840593 ∷ 0x00200613 ∷ 0x00000073
    ∷  -- addi a7, x0, 8; addi a0, x0, 1; addi a1, s0, 40; addi a2, x0, 2; ecall
    -- thread_exit
    0x00100893 ∷ 0x00000073 ∷  -- addi a7, x0, 1; ecall
    []
    )

two_are_woken : without_work
    (machine (wakes_two ∷ []) (with_frames 17)
    (posts [] ∷ posts [] ∷ posts [] ∷ posts [] ∷ posts [] ∷ []))
    ≡ ended (Signals 1 ∷ Signals 2 ∷ Signals 3 ∷ Signals 4 ∷ Signals 5 ∷ End Done 5 ∷ [])
    (2 ∷ 3 ∷ 0 ∷ 1 ∷ 1 ∷ 0 ∷ 234 ∷ 242 ∷ 0 ∷ 2 ∷ 0 ∷ 3 ∷ []) (Some 0 ∷ []) Done 5
unfolding computing
two_are_woken = refl
