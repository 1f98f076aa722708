-- A small program, twice, that tells its numbers: get_pid, get_tid and round. Computed by the
-- checker; what they come to was worked out by hand.
use Rattle.std.specs.Prelude.{[], ◌∷◌, Some, ◌≡◌, refl}
use Rattle.dos_world.specs.Play.{posts}
use Rattle.dos_world.specs.declared.Question.TheVariants.{Signals, End}
use Rattle.dos_world.specs.declared.Ending.TheVariants.{Done}
use Rattle.flat_machine.specs.Computing.{computing}
use Rattle.elf_image.specs.Image.{Image}
use Rattle.flat_machine.specs.Machine.{machine}
use Rattle.run_examples.proofs.Programs.{program, with_frames, ended, without_work}

-- The second thread of a process tells its numbers, and sends signal 15 to the next process.
abbrev tells_its_numbers : Image
tells_its_numbers = program (
    -- thread_new(second, 0, 0): 3; 4
    0x00300893 ∷ 0x00010537 ∷ 0x01850513 ∷ 0x00000073
    ∷  -- addi a7, x0, 3; lui a0, 0x10; addi a0, a0, second; ecall
    -- thread_exit
    0x00100893 ∷ 0x00000073 ∷  -- addi a7, x0, 1; ecall
    -- the second thread; the answers stand at s0, 0x10400
    0x00010437 ∷ 0x40040413 ∷  -- second: lui s0, 0x10; addi s0, s0, 0x400
    -- get_pid: 1; 2
    0x01400893 ∷ 0x00000073 ∷ 0x00A40023 ∷  -- addi a7, x0, 20; ecall; sb a0, 0(s0)
    -- s1 is the number of the next process
    0x00150493 ∷  -- addi s1, a0, 1
    -- get_tid: 3; 4
    0x01500893 ∷ 0x00000073 ∷ 0x00A400A3 ∷  -- addi a7, x0, 21; ecall; sb a0, 1(s0)
    -- round: 2
    0x01800893 ∷ 0x00000073 ∷ 0x00A40123 ∷  -- addi a7, x0, 24; ecall; sb a0, 2(s0)
    -- kill(2, 15): 0; kill(3, 15): -3
    0x01300893 ∷ 0x00048513 ∷ 0x00F00593 ∷ 0x00000073 ∷ 0x00A401A3
    ∷  -- addi a7, x0, 19; addi a0, s1, 0; addi a1, x0, 15; ecall; sb a0, 3(s0)
    -- write(1, s0, 4)
    0x00800893 ∷ 0x00100513 ∷ 0x00040593 ∷ 0x00400613 ∷ 0x00000073
    ∷  -- addi a7, x0, 8; addi a0, x0, 1; addi a1, s0, 0; addi a2, x0, 4; ecall
    -- yield; 15 ends process 2 before round 3
    0x01700893 ∷ 0x00000073 ∷  -- addi a7, x0, 23; ecall
    -- round: 3
    0x01800893 ∷ 0x00000073 ∷  -- addi a7, x0, 24; ecall
    -- process_exit(3)
    0x00200893 ∷ 0x00000073 ∷  -- addi a7, x0, 2; ecall
    []
    )

two_tell_their_numbers : without_work
    (machine (tells_its_numbers ∷ tells_its_numbers ∷ []) (with_frames 34)
    (posts [] ∷ posts [] ∷ posts [] ∷ []))
    ≡ ended (Signals 1 ∷ Signals 2 ∷ Signals 3 ∷ End Done 3 ∷ [])
    (1 ∷ 3 ∷ 2 ∷ 0 ∷ 2 ∷ 4 ∷ 2 ∷ 253 ∷ []) (Some 3 ∷ Some 143 ∷ []) Done 3
unfolding computing
two_tell_their_numbers = refl
