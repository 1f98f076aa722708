-- A small program with shared pages: share and unmap. Computed by the checker; what they come to
-- was worked out by hand.
use Rattle.std.specs.Prelude.{[], ◌∷◌, Some, ◌≡◌, refl}
use Rattle.dos_world.specs.Play.{posts}
use Rattle.dos_world.specs.declared.Question.TheVariants.{Signals, End}
use Rattle.dos_world.specs.declared.Ending.TheVariants.{Done}
use Rattle.flat_machine.specs.Computing.{computing}
use Rattle.elf_image.specs.Image.{Image}
use Rattle.flat_machine.specs.Machine.{machine}
use Rattle.run_examples.proofs.Programs.{program, with_frames, ended, without_work}

-- A parent and its child have one page in common, and another each for itself.
abbrev shares_a_page : Image
shares_a_page = program (
    -- the answers stand at s0, 0x10400
    0x00010437 ∷ 0x40040413 ∷  -- lui s0, 0x10; addi s0, s0, 0x400
    -- map(0x20000, 2, 6): 0
    0x00D00893 ∷ 0x00020537 ∷ 0x00200593 ∷ 0x00600613 ∷ 0x00000073 ∷ 0x00A40023
    ∷  -- addi a7, x0, 13; lui a0, 0x20; addi a1, x0, 2; addi a2, x0, 6; ecall; sb a0, 0(s0)
    -- fork: -12, for 19 pages are private and 2 frames are free
    0x00400893 ∷ 0x00000073 ∷ 0x00A400A3 ∷  -- addi a7, x0, 4; ecall; sb a0, 1(s0)
    -- share(0xEFFF0000, 16), the stack: 0
    0x00F00893 ∷ 0xEFFF0537 ∷ 0x01000593 ∷ 0x00000073 ∷ 0x00A40123
    ∷  -- addi a7, x0, 15; lui a0, 0xEFFF0; addi a1, x0, 16; ecall; sb a0, 2(s0)
    -- share(0x20000, 1): 0
    0x00020537 ∷ 0x00100593 ∷ 0x00000073 ∷ 0x00A401A3
    ∷  -- lui a0, 0x20; addi a1, x0, 1; ecall; sb a0, 3(s0)
    -- share(0x22000, 1): -22
    0x00022537 ∷ 0x00000073 ∷ 0x00A40223 ∷  -- lui a0, 0x22; ecall; sb a0, 4(s0)
    -- s1 and s2 are the two pages
    0x000204B7 ∷ 0x00021937 ∷  -- lui s1, 0x20; lui s2, 0x21
    -- fork, for which 2 frames are enough now
    0x00400893 ∷ 0x00000073 ∷ 0x00051E63 ∷  -- addi a7, x0, 4; ecall; bne a0, x0, parent
    -- the child: 7 goes into both pages; process_exit(9)
    0x00700293 ∷ 0x00548023 ∷ 0x00590023 ∷ 0x00900513 ∷ 0x00200893 ∷ 0x00000073
    ∷  -- addi t0, x0, 7; sb t0, 0(s1); sb t0, 0(s2); addi a0, x0, 9; addi a7, x0, 2; ecall
    -- the parent: its fork's answer, 2
    0x00A402A3 ∷  -- parent: sb a0, 5(s0)
    -- wait(0): 2 and 9
    0x00500893 ∷ 0x00000513 ∷ 0x00000073 ∷ 0x00A40323 ∷ 0x00B403A3
    ∷  -- addi a7, x0, 5; addi a0, x0, 0; ecall; sb a0, 6(s0); sb a1, 7(s0)
    -- the shared page has the child's 7
    0x0004C283 ∷ 0x00540423 ∷  -- lbu t0, 0(s1); sb t0, 8(s0)
    -- the private page has 0
    0x00094283 ∷ 0x005404A3 ∷  -- lbu t0, 0(s2); sb t0, 9(s0)
    -- unmap(0x20000, 2): 0
    0x00E00893 ∷ 0x00020537 ∷ 0x00200593 ∷ 0x00000073 ∷ 0x00A40523
    ∷  -- addi a7, x0, 14; lui a0, 0x20; addi a1, x0, 2; ecall; sb a0, 10(s0)
    -- the same again: -22
    0x00020537 ∷ 0x00000073 ∷ 0x00A405A3 ∷  -- lui a0, 0x20; ecall; sb a0, 11(s0)
    -- write(1, s0, 12)
    0x00800893 ∷ 0x00100513 ∷ 0x00040593 ∷ 0x00C00613 ∷ 0x00000073
    ∷  -- addi a7, x0, 8; addi a0, x0, 1; addi a1, s0, 0; addi a2, x0, 12; ecall
    -- fault 11
    0x0004C283 ∷  -- lbu t0, 0(s1)
    []
    )

a_shared_page_is_seen : without_work
    (machine (shares_a_page ∷ []) (with_frames 21) (posts [] ∷ posts [] ∷ posts [] ∷ []))
    ≡ ended (Signals 1 ∷ Signals 2 ∷ Signals 3 ∷ End Done 3 ∷ [])
    (0 ∷ 244 ∷ 0 ∷ 0 ∷ 234 ∷ 2 ∷ 2 ∷ 9 ∷ 7 ∷ 0 ∷ 0 ∷ 234 ∷ [])
    (Some 139 ∷ Some 9 ∷ []) Done 3
unfolding computing
a_shared_page_is_seen = refl
