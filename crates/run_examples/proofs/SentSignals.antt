-- A small program that sends signals to itself: sig_mask, kill and get_pid. Computed by the
-- checker; what they come to was worked out by hand.
use Rattle.std.specs.Prelude.{[], ◌∷◌, Some, ◌≡◌, refl}
use Rattle.dos_world.specs.Play.{posts}
use Rattle.dos_world.specs.declared.Question.TheVariants.{Signals, End}
use Rattle.dos_world.specs.declared.Ending.TheVariants.{Done}
use Rattle.flat_machine.specs.Computing.{computing}
use Rattle.elf_image.specs.Image.{Image}
use Rattle.flat_machine.specs.Machine.{machine}
use Rattle.run_examples.proofs.Programs.{program, with_frames, ended, without_work}

-- Signal 10 is masked, then handled; 15 ends the process.
abbrev signals_itself : Image
signals_itself = program (
    -- the answers stand at s0, 0x10400
    0x00010437 ∷ 0x40040413 ∷  -- lui s0, 0x10; addi s0, s0, 0x400
    -- sig_handler(10, handler): 0, the default
    0x01000893 ∷ 0x00A00513 ∷ 0x000105B7 ∷ 0x0F058593 ∷ 0x00000073 ∷ 0x00A40023
    ∷  -- addi a7, x0, 16; addi a0, x0, 10; lui a1, 0x10; addi a1, a1, handler; ecall; sb a0, 0(s0)
    -- sig_mask(0x601): 0
    0x01100893 ∷ 0x60100513 ∷ 0x00000073 ∷ 0x00A400A3
    ∷  -- addi a7, x0, 17; addi a0, x0, 0x601; ecall; sb a0, 1(s0)
    -- get_pid: 1
    0x01400893 ∷ 0x00000073 ∷ 0x00A40123 ∷  -- addi a7, x0, 20; ecall; sb a0, 2(s0)
    -- kill(1, 10): 0
    0x01300893 ∷ 0x00A00593 ∷ 0x00000073 ∷ 0x00A401A3
    ∷  -- addi a7, x0, 19; addi a1, x0, 10; ecall; sb a0, 3(s0)
    -- yield: 0; 10 stays pending in round 2
    0x01700893 ∷ 0x00000073 ∷ 0x00A40223 ∷  -- addi a7, x0, 23; ecall; sb a0, 4(s0)
    -- sig_mask(0): 0x400, for bits 0 and 9 are dropped
    0x01100893 ∷ 0x00000513 ∷ 0x00000073 ∷ 0x00A402A3 ∷ 0x00855513 ∷ 0x00A40323
    ∷  -- addi a7, x0, 17; addi a0, x0, 0; ecall; sb a0, 5(s0); srli a0, a0, 8; sb a0, 6(s0)
    -- the handler hasn't run
    0x00844283 ∷ 0x005403A3 ∷  -- lbu t0, 8(s0); sb t0, 7(s0)
    -- yield; round 3 begins with the handler
    0x01700893 ∷ 0x00000073 ∷  -- addi a7, x0, 23; ecall
    -- sig_mask(0): 0, as before the handler
    0x01100893 ∷ 0x00000513 ∷ 0x00000073 ∷ 0x00A40523
    ∷  -- addi a7, x0, 17; addi a0, x0, 0; ecall; sb a0, 10(s0)
    -- kill(9, 32): -22
    0x01300893 ∷ 0x00900513 ∷ 0x02000593 ∷ 0x00000073 ∷ 0x00A405A3
    ∷  -- addi a7, x0, 19; addi a0, x0, 9; addi a1, x0, 32; ecall; sb a0, 11(s0)
    -- kill(9, 15): -3
    0x00900513 ∷ 0x00F00593 ∷ 0x00000073 ∷ 0x00A40623
    ∷  -- addi a0, x0, 9; addi a1, x0, 15; ecall; sb a0, 12(s0)
    -- kill(1, 0): 0, and nothing is posted
    0x00100513 ∷ 0x00000593 ∷ 0x00000073 ∷ 0x00A406A3
    ∷  -- addi a0, x0, 1; addi a1, x0, 0; ecall; sb a0, 13(s0)
    -- kill(1, 15): 0
    0x00100513 ∷ 0x00F00593 ∷ 0x00000073 ∷ 0x00A40723
    ∷  -- addi a0, x0, 1; addi a1, x0, 15; ecall; sb a0, 14(s0)
    -- write(1, s0, 15)
    0x00800893 ∷ 0x00100513 ∷ 0x00040593 ∷ 0x00F00613 ∷ 0x00000073
    ∷  -- addi a7, x0, 8; addi a0, x0, 1; addi a1, s0, 0; addi a2, x0, 15; ecall
    -- yield; 15 ends the process before round 4
    0x01700893 ∷ 0x00000073 ∷  -- addi a7, x0, 23; ecall
    -- the handler: the signal, 10
    0x00A40423 ∷  -- handler: sb a0, 8(s0)
    -- sig_mask(10): 0x400, for the signal is masked
    0x01100893 ∷ 0x00000073 ∷ 0x00855513 ∷ 0x00A404A3
    ∷  -- addi a7, x0, 17; ecall; srli a0, a0, 8; sb a0, 9(s0)
    -- sig_return
    0x01200893 ∷ 0x00000073 ∷  -- addi a7, x0, 18; ecall
    []
    )

a_masked_signal_waits : without_work
    (machine (signals_itself ∷ []) (with_frames 17)
    (posts [] ∷ posts [] ∷ posts [] ∷ posts [] ∷ []))
    ≡ ended (Signals 1 ∷ Signals 2 ∷ Signals 3 ∷ Signals 4 ∷ End Done 3 ∷ [])
    (0 ∷ 0 ∷ 1 ∷ 0 ∷ 0 ∷ 0 ∷ 4 ∷ 0 ∷ 10 ∷ 4 ∷ 0 ∷ 234 ∷ 253 ∷ 0 ∷ 0 ∷ [])
    (Some 143 ∷ []) Done 3
unfolding computing
a_masked_signal_waits = refl
