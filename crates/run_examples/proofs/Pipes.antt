-- Small programs with pipes and descriptors: pipe, close and dup. Computed by the checker; what
-- they come to was worked out by hand.
use Rattle.std.specs.Prelude.{[], ◌∷◌, Some, ◌≡◌, refl}
use Rattle.dos_world.specs.Play.{posts}
use Rattle.dos_world.specs.declared.Question.TheVariants.{Signals, End}
use Rattle.dos_world.specs.declared.Ending.TheVariants.{Done}
use Rattle.flat_machine.specs.Computing.{computing}
use Rattle.elf_image.specs.Image.{Image}
use Rattle.flat_machine.specs.Machine.{machine}
use Rattle.run_examples.proofs.Programs.{program, with_frames, ended, without_work}

-- One thread sends its first three answers through a pipe, from there to output by a doubled
-- descriptor, and then all its answers.
abbrev doubles_and_closes : Image
doubles_and_closes = program (
    -- the answers stand at s0, 0x10400
    0x00010437 ∷ 0x40040413 ∷  -- lui s0, 0x10; addi s0, s0, 0x400
    -- pipe: 3 and 4
    0x00600893 ∷ 0x00000073 ∷ 0x00A40023 ∷ 0x00B400A3
    ∷  -- addi a7, x0, 6; ecall; sb a0, 0(s0); sb a1, 1(s0)
    -- dup(1): 5
    0x00A00893 ∷ 0x00100513 ∷ 0x00000073 ∷ 0x00A40123
    ∷  -- addi a7, x0, 10; addi a0, x0, 1; ecall; sb a0, 2(s0)
    -- dup(3): 6
    0x00300513 ∷ 0x00000073 ∷ 0x00A401A3 ∷  -- addi a0, x0, 3; ecall; sb a0, 3(s0)
    -- close(3): 0
    0x00900893 ∷ 0x00300513 ∷ 0x00000073 ∷ 0x00A40223
    ∷  -- addi a7, x0, 9; addi a0, x0, 3; ecall; sb a0, 4(s0)
    -- write(4, s0, 3): 3, for 6 still reads
    0x00800893 ∷ 0x00400513 ∷ 0x00040593 ∷ 0x00300613 ∷ 0x00000073 ∷ 0x00A402A3
    ∷  -- addi a7, x0, 8; addi a0, x0, 4; addi a1, s0, 0; addi a2, x0, 3; ecall; sb a0, 5(s0)
    -- read(6, s0 + 32, 8): 3
    0x00700893 ∷ 0x00600513 ∷ 0x02040593 ∷ 0x00800613 ∷ 0x00000073 ∷ 0x00A40323
    ∷  -- addi a7, x0, 7; addi a0, x0, 6; addi a1, s0, 32; addi a2, x0, 8; ecall; sb a0, 6(s0)
    -- close(3): -9
    0x00900893 ∷ 0x00300513 ∷ 0x00000073 ∷ 0x00A403A3
    ∷  -- addi a7, x0, 9; addi a0, x0, 3; ecall; sb a0, 7(s0)
    -- close(6): 0
    0x00600513 ∷ 0x00000073 ∷ 0x00A40423 ∷  -- addi a0, x0, 6; ecall; sb a0, 8(s0)
    -- write(4, s0 + 32, 8): -32, for nobody reads
    0x00800893 ∷ 0x00400513 ∷ 0x00000073 ∷ 0x00A404A3
    ∷  -- addi a7, x0, 8; addi a0, x0, 4; ecall; sb a0, 9(s0)
    -- dup(6): -9
    0x00A00893 ∷ 0x00600513 ∷ 0x00000073 ∷ 0x00A40523
    ∷  -- addi a7, x0, 10; addi a0, x0, 6; ecall; sb a0, 10(s0)
    -- write(5, s0 + 32, 3): to output
    0x00800893 ∷ 0x00500513 ∷ 0x00300613 ∷ 0x00000073
    ∷  -- addi a7, x0, 8; addi a0, x0, 5; addi a2, x0, 3; ecall
    -- write(1, s0, 11): 11
    0x00100513 ∷ 0x00040593 ∷ 0x00B00613 ∷ 0x00000073
    ∷  -- addi a0, x0, 1; addi a1, s0, 0; addi a2, x0, 11; ecall
    -- process_exit(11)
    0x00200893 ∷ 0x00000073 ∷  -- addi a7, x0, 2; ecall
    []
    )

descriptors_are_doubled_and_closed : without_work
    (machine (doubles_and_closes ∷ []) (with_frames 17) (posts [] ∷ []))
    ≡ ended (Signals 1 ∷ End Done 1 ∷ [])
    (3 ∷ 4 ∷ 5 ∷ 3 ∷ 4 ∷ 5 ∷ 6 ∷ 0 ∷ 3 ∷ 3 ∷ 247 ∷ 0 ∷ 224 ∷ 247 ∷ []) (Some 11 ∷ []) Done 1
unfolding computing
descriptors_are_doubled_and_closed = refl

-- Of 32 descriptors 29 are free, which are 14 pipes and one more.
abbrev takes_all : Image
takes_all = program (
    -- the answers stand at s0, 0x10400
    0x00010437 ∷ 0x40040413 ∷  -- lui s0, 0x10; addi s0, s0, 0x400
    -- pipe, until it is refused
    0x00600893 ∷  -- addi a7, x0, 6
    0x00000073 ∷ 0x00148493 ∷ 0xFE055CE3 ∷  -- again: ecall; addi s1, s1, 1; bge a0, x0, again
    -- -24, and the calls in s1: 15
    0x00A40023 ∷ 0x009400A3 ∷  -- sb a0, 0(s0); sb s1, 1(s0)
    -- dup(1): 31
    0x00A00893 ∷ 0x00100513 ∷ 0x00000073 ∷ 0x00A40123
    ∷  -- addi a7, x0, 10; addi a0, x0, 1; ecall; sb a0, 2(s0)
    -- the same again: -24
    0x00100513 ∷ 0x00000073 ∷ 0x00A401A3 ∷  -- addi a0, x0, 1; ecall; sb a0, 3(s0)
    -- write(1, s0, 4)
    0x00800893 ∷ 0x00100513 ∷ 0x00040593 ∷ 0x00400613 ∷ 0x00000073
    ∷  -- addi a7, x0, 8; addi a0, x0, 1; addi a1, s0, 0; addi a2, x0, 4; ecall
    -- process_exit(4)
    0x00200893 ∷ 0x00000073 ∷  -- addi a7, x0, 2; ecall
    []
    )

descriptors_run_out : without_work (machine (takes_all ∷ []) (with_frames 17) (posts [] ∷ []))
    ≡ ended (Signals 1 ∷ End Done 1 ∷ []) (232 ∷ 15 ∷ 31 ∷ 232 ∷ []) (Some 4 ∷ []) Done 1
unfolding computing
descriptors_run_out = refl

-- A parent reads from its child. Its stack is shared, so that a fork takes one frame.
abbrev reads_from_a_child : Image
reads_from_a_child = program (
    -- the answers stand at s0, 0x10400
    0x00010437 ∷ 0x40040413 ∷  -- lui s0, 0x10; addi s0, s0, 0x400
    -- share(0xEFFF0000, 16), the stack
    0x00F00893 ∷ 0xEFFF0537 ∷ 0x01000593 ∷ 0x00000073
    ∷  -- addi a7, x0, 15; lui a0, 0xEFFF0; addi a1, x0, 16; ecall
    -- pipe: 3 and 4
    0x00600893 ∷ 0x00000073 ∷  -- addi a7, x0, 6; ecall
    -- fork: 2
    0x00400893 ∷ 0x00000073 ∷ 0x02051663 ∷  -- addi a7, x0, 4; ecall; bne a0, x0, parent
    -- the child: write(4, s0, 1), an A
    0x04100513 ∷ 0x00A40023 ∷ 0x00800893 ∷ 0x00400513 ∷ 0x00040593 ∷ 0x00100613 ∷ 0x00000073
    ∷  -- addi a0, x0, 65; sb a0, 0(s0); addi a7, x0, 8; addi a0, x0, 4; addi a1, s0, 0;
    -- addi a2, x0, 1; ecall
    -- process_exit(5)
    0x00200893 ∷ 0x00500513 ∷ 0x00000073 ∷  -- addi a7, x0, 2; addi a0, x0, 5; ecall
    -- the parent: close(4): 0
    0x00900893 ∷ 0x00400513 ∷ 0x00000073 ∷ 0x00A40023
    ∷  -- parent: addi a7, x0, 9; addi a0, x0, 4; ecall; sb a0, 0(s0)
    -- read(3, s0 + 32, 8): waits, then 1
    0x00700893 ∷ 0x00300513 ∷ 0x02040593 ∷ 0x00800613 ∷ 0x00000073 ∷ 0x00A400A3
    ∷  -- addi a7, x0, 7; addi a0, x0, 3; addi a1, s0, 32; addi a2, x0, 8; ecall; sb a0, 1(s0)
    -- the same again: 0, for nobody can write
    0x00300513 ∷ 0x00000073 ∷ 0x00A40123 ∷  -- addi a0, x0, 3; ecall; sb a0, 2(s0)
    -- the child's A
    0x02044283 ∷ 0x005401A3 ∷  -- lbu t0, 32(s0); sb t0, 3(s0)
    -- wait(2): 2 and 5
    0x00500893 ∷ 0x00200513 ∷ 0x00000073 ∷ 0x00A40223 ∷ 0x00B402A3
    ∷  -- addi a7, x0, 5; addi a0, x0, 2; ecall; sb a0, 4(s0); sb a1, 5(s0)
    -- write(1, s0, 6): 6
    0x00800893 ∷ 0x00100513 ∷ 0x00040593 ∷ 0x00600613 ∷ 0x00000073
    ∷  -- addi a7, x0, 8; addi a0, x0, 1; addi a1, s0, 0; addi a2, x0, 6; ecall
    -- process_exit(6)
    0x00200893 ∷ 0x00000073 ∷  -- addi a7, x0, 2; ecall
    []
    )

a_reader_waits_for_its_child : without_work
    (machine (reads_from_a_child ∷ []) (with_frames 18)
    (posts [] ∷ posts [] ∷ posts [] ∷ []))
    ≡ ended (Signals 1 ∷ Signals 2 ∷ Signals 3 ∷ End Done 3 ∷ []) (0 ∷ 1 ∷ 0 ∷ 65 ∷ 2 ∷ 5 ∷ [])
    (Some 6 ∷ Some 5 ∷ []) Done 3
unfolding computing
a_reader_waits_for_its_child = refl
