-- A small program whose calls are all refused. Computed by the checker; what they come to was
-- worked out by hand.
use Rattle.std.specs.Prelude.{[], ◌∷◌, Some, ◌≡◌, refl}
use Rattle.dos_world.specs.Play.{posts}
use Rattle.dos_world.specs.declared.Question.TheVariants.{Signals, End}
use Rattle.dos_world.specs.declared.Ending.TheVariants.{Done}
use Rattle.flat_machine.specs.Computing.{computing}
use Rattle.elf_image.specs.Image.{Image}
use Rattle.flat_machine.specs.Machine.{machine}
use Rattle.run_examples.proofs.Programs.{program, with_frames, ended, without_work}

-- Where several reasons to refuse a call hold, the first of its row counts.
abbrev is_refused : Image
is_refused = program (
    -- the answers stand at s0, 0x10400
    0x00010437 ∷ 0x40040413 ∷  -- lui s0, 0x10; addi s0, s0, 0x400
    -- thread_new(s0 + 1, 0, 0): -22
    0x00300893 ∷ 0x00140513 ∷ 0x00000073 ∷ 0x00A40023
    ∷  -- addi a7, x0, 3; addi a0, s0, 1; ecall; sb a0, 0(s0)
    -- wait(0): -10
    0x00500893 ∷ 0x00000513 ∷ 0x00000073 ∷ 0x00A400A3
    ∷  -- addi a7, x0, 5; addi a0, x0, 0; ecall; sb a0, 1(s0)
    -- read(1, s0, 4): -9
    0x00700893 ∷ 0x00100513 ∷ 0x00040593 ∷ 0x00400613 ∷ 0x00000073 ∷ 0x00A40123
    ∷  -- addi a7, x0, 7; addi a0, x0, 1; addi a1, s0, 0; addi a2, x0, 4; ecall; sb a0, 2(s0)
    -- read(0, 0, 4): -14
    0x00000513 ∷ 0x00000593 ∷ 0x00000073 ∷ 0x00A401A3
    ∷  -- addi a0, x0, 0; addi a1, x0, 0; ecall; sb a0, 3(s0)
    -- write(1, 0, 4): -14
    0x00800893 ∷ 0x00100513 ∷ 0x00000073 ∷ 0x00A40223
    ∷  -- addi a7, x0, 8; addi a0, x0, 1; ecall; sb a0, 4(s0)
    -- write(0, 0, 4): -9
    0x00000513 ∷ 0x00000073 ∷ 0x00A402A3 ∷  -- addi a0, x0, 0; ecall; sb a0, 5(s0)
    -- futex_wait(s0 + 32, 5), a word that is 0: -11
    0x00B00893 ∷ 0x02040513 ∷ 0x00500593 ∷ 0x00000073 ∷ 0x00A40323
    ∷  -- addi a7, x0, 11; addi a0, s0, 32; addi a1, x0, 5; ecall; sb a0, 6(s0)
    -- futex_wait(2, 5): -22
    0x00200513 ∷ 0x00000073 ∷ 0x00A403A3 ∷  -- addi a0, x0, 2; ecall; sb a0, 7(s0)
    -- futex_wait(0, 5): -14
    0x00000513 ∷ 0x00000073 ∷ 0x00A40423 ∷  -- addi a0, x0, 0; ecall; sb a0, 8(s0)
    -- map(0x10000, 1, 6), which is mapped: -22
    0x00D00893 ∷ 0x00010537 ∷ 0x00100593 ∷ 0x00600613 ∷ 0x00000073 ∷ 0x00A404A3
    ∷  -- addi a7, x0, 13; lui a0, 0x10; addi a1, x0, 1; addi a2, x0, 6; ecall; sb a0, 9(s0)
    -- map(0x20000, 1, 8): -22
    0x00020537 ∷ 0x00800613 ∷ 0x00000073 ∷ 0x00A40523
    ∷  -- lui a0, 0x20; addi a2, x0, 8; ecall; sb a0, 10(s0)
    -- unmap(0x20000, 1): -22
    0x00E00893 ∷ 0x00020537 ∷ 0x00000073 ∷ 0x00A405A3
    ∷  -- addi a7, x0, 14; lui a0, 0x20; ecall; sb a0, 11(s0)
    -- sig_handler(9, 1): -22
    0x01000893 ∷ 0x00900513 ∷ 0x00000073 ∷ 0x00A40623
    ∷  -- addi a7, x0, 16; addi a0, x0, 9; ecall; sb a0, 12(s0)
    -- sig_handler(15, 3): -22
    0x00F00513 ∷ 0x00300593 ∷ 0x00000073 ∷ 0x00A406A3
    ∷  -- addi a0, x0, 15; addi a1, x0, 3; ecall; sb a0, 13(s0)
    -- no service: -38
    0x01900893 ∷ 0x00000073 ∷ 0x00A40723 ∷  -- addi a7, x0, 25; ecall; sb a0, 14(s0)
    -- write(1, s0, 15)
    0x00800893 ∷ 0x00100513 ∷ 0x00040593 ∷ 0x00F00613 ∷ 0x00000073
    ∷  -- addi a7, x0, 8; addi a0, x0, 1; addi a1, s0, 0; addi a2, x0, 15; ecall
    -- process_exit(15)
    0x00200893 ∷ 0x00000073 ∷  -- addi a7, x0, 2; ecall
    []
    )

calls_are_refused : without_work (machine (is_refused ∷ []) (with_frames 17) (posts [] ∷ []))
    ≡ ended (Signals 1 ∷ End Done 1 ∷ [])
    (234 ∷ 246 ∷ 247 ∷ 242 ∷ 242 ∷ 247 ∷ 245 ∷ 234 ∷ 242 ∷ 234 ∷ 234 ∷ 234 ∷ 234 ∷ 234 ∷ 218
    ∷ []) (Some 15 ∷ []) Done 1
unfolding computing
calls_are_refused = refl
