-- Small programs, computed by the checker: how a process ends, budgets, room. What they come to was
-- worked out by hand.
use Rattle.std.specs.Prelude.{[], ◌∷◌, ◌++◌, replicate, Some, None, ◌≡◌, refl}
use Rattle.dos_world.specs.Play.{posts}
use Rattle.dos_world.specs.declared.Question.TheVariants.{Signals, End}
use Rattle.dos_world.specs.declared.Ending.TheVariants.{Done, Limit}
use Rattle.dos_world.specs.declared.Scheme.TheVariants.{Ownership}
use Rattle.flat_machine.specs.Computing.{computing}
use Rattle.elf_image.specs.Image.{Image}
use Rattle.flat_machine.specs.Opening.{needed}
use Rattle.flat_machine.specs.Machine.{machine, ends, needs}
use Rattle.run_examples.proofs.Programs.{program, with_frames, with_quantum, ended, without_work}

-- process_exit with 7: two instructions in the parallel phase, the ecall in the serial phase
abbrev pub exits_with_7 : Image
exits_with_7 = program (0x00200893 ∷ 0x00700513 ∷ 0x00000073 ∷ [])

a_process_exits : machine (exits_with_7 ∷ []) (with_frames 17) (posts [] ∷ [])
    ≡ ends (record {
      questions = Signals 1 ∷ End Done 1 ∷ [];
      output = [];
      error = [];
      statuses =
          Some 7 ∷ [];
      ending = Done;
      rounds = 1;
      work = 2;
    })
unfolding computing
a_process_exits = refl

-- without an answer to the first question
the_shim_is_asked : machine (exits_with_7 ∷ []) (with_frames 17) [] ≡ needs (Signals 1) [] []
unfolding computing
the_shim_is_asked = refl

-- auipc x5, 0; sw x0, 2(x5)
a_store_is_misaligned : without_work
    (machine (program (0x00000297 ∷ 0x0002A123 ∷ []) ∷ []) (with_frames 17) (posts [] ∷ []))
    ≡ ended (Signals 1 ∷ End Done 1 ∷ []) [] (Some 135 ∷ []) Done 1
unfolding computing
a_store_is_misaligned = refl

-- sw x0, 0(x0)
a_store_hits_no_page : without_work
    (machine (program (0x00002023 ∷ []) ∷ []) (with_frames 17) (posts [] ∷ []))
    ≡ ended (Signals 1 ∷ End Done 1 ∷ []) [] (Some 139 ∷ []) Done 1
unfolding computing
a_store_hits_no_page = refl

-- jal x0, 6, to a halfword of zeros
a_jump_to_a_halfword : without_work
    (machine (program (0x0060006F ∷ 0x00000000 ∷ []) ∷ []) (with_frames 17) (posts [] ∷ []))
    ≡ ended (Signals 1 ∷ End Done 1 ∷ []) [] (Some 132 ∷ []) Done 1
unfolding computing
a_jump_to_a_halfword = refl

-- c.li x17, 2; c.li x10, 7; ecall
two_in_a_word : without_work
    (machine (program (0x451D4889 ∷ 0x00000073 ∷ []) ∷ []) (with_frames 17) (posts [] ∷ []))
    ≡ ended (Signals 1 ∷ End Done 1 ∷ []) [] (Some 7 ∷ []) Done 1
unfolding computing
two_in_a_word = refl

-- jal x0 to the last halfword of the page, where the lower half of addi x17, x0, 2 stands; its
-- upper half, c.li x10, 7 and ecall stand on the next page
an_instruction_over_two_pages : without_work
    (machine (program (0x7FF0006F ∷ replicate 1022 0x00000000 ++ 0x08930000 ∷ 0x451D0020
    ∷ 0x00000073 ∷ []) ∷ []) (with_frames 18) (posts [] ∷ []))
    ≡ ended (Signals 1 ∷ End Done 1 ∷ []) [] (Some 7 ∷ []) Done 1
unfolding computing
an_instruction_over_two_pages = refl

-- the same without the next page
half_an_instruction : without_work
    (machine (program (0x7FF0006F ∷ replicate 1022 0x00000000 ++ 0x08930000 ∷ []) ∷ [])
    (with_frames 17) (posts [] ∷ []))
    ≡ ended (Signals 1 ∷ End Done 1 ∷ []) [] (Some 139 ∷ []) Done 1
unfolding computing
half_an_instruction = refl

-- the all-zero word means no instruction, and 0x00100073 is ebreak
a_word_means_nothing : without_work
    (machine (program (0x00000000 ∷ []) ∷ []) (with_frames 17) (posts [] ∷ []))
    ≡ ended (Signals 1 ∷ End Done 1 ∷ []) [] (Some 132 ∷ []) Done 1
unfolding computing
a_word_means_nothing = refl

an_ebreak : without_work (machine (program (0x00100073 ∷ []) ∷ []) (with_frames 17) (posts [] ∷ []))
    ≡ ended (Signals 1 ∷ End Done 1 ∷ []) [] (Some 133 ∷ []) Done 1
unfolding computing
an_ebreak = refl

-- A quantum of 16: with 16 instructions before its ecall a program needs a second round, with 15 it
-- doesn't.
the_budget_is_short : machine
    (program ((0x00200893 ∷ []) ++ replicate 15 0x00000013 ++ (0x00000073 ∷ [])) ∷ [])
    (with_quantum 16 17) (posts [] ∷ posts [] ∷ [])
    ≡ ends (record {
      questions = Signals 1 ∷ Signals 2 ∷ End Done 2 ∷ [];
      output = [];
      error = [];
      statuses = Some 0 ∷ [];
      ending = Done;
      rounds = 2;
      work = 16;
    })
unfolding computing
the_budget_is_short = refl

the_budget_is_enough : machine
    (program ((0x00200893 ∷ []) ++ replicate 14 0x00000013 ++ (0x00000073 ∷ [])) ∷ [])
    (with_quantum 16 17) (posts [] ∷ [])
    ≡ ends (record {
      questions = Signals 1 ∷ End Done 1 ∷ [];
      output = [];
      error = [];
      statuses =
          Some 0 ∷ [];
      ending = Done;
      rounds = 1;
      work = 15;
    })
unfolding computing
the_budget_is_enough = refl

-- jal x0, 0, for one round of 1000
the_rounds_run_out : machine (program (0x0000006F ∷ []) ∷ [])
    (record { quantum = 1000; rounds = 1; frames = 17; scheme = Ownership }) (posts [] ∷ [])
    ≡ ends (record {
      questions = Signals 1 ∷ End Limit 1 ∷ [];
      output = [];
      error = [];
      statuses =
          None ∷ [];
      ending = Limit;
      rounds = 1;
      work = 1000;
    })
unfolding computing
the_rounds_run_out = refl

-- one page of code and 16 of stack
the_frames_needed : needed (exits_with_7 ∷ []) ≡ 17
the_frames_needed = refl

-- map of one page: refused with 12 where no frame is free
abbrev maps_a_page : Image
maps_a_page = program (0x00D00893 ∷ 0x00020537 ∷ 0x00100593 ∷ 0x00600613 ∷ 0x00000073 ∷ 0x00200893
    ∷ 0x00000073 ∷ [])

no_frame_is_free : without_work (machine (maps_a_page ∷ []) (with_frames 17) (posts [] ∷ []))
    ≡ ended (Signals 1 ∷ End Done 1 ∷ []) [] (Some 244 ∷ []) Done 1
unfolding computing
no_frame_is_free = refl

a_frame_is_free : without_work (machine (maps_a_page ∷ []) (with_frames 18) (posts [] ∷ []))
    ≡ ended (Signals 1 ∷ End Done 1 ∷ []) [] (Some 0 ∷ []) Done 1
unfolding computing
a_frame_is_free = refl
