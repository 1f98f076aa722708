-- Small programs at the edges of their pages and rights, input in pieces, and the frames that a
-- linker's file needs; computed by the checker.
use Rattle.std.specs.Prelude.{[], ◌∷◌, Some, ◌≡◌, refl, codes, true, false, replicate}
use Rattle.dos_world.specs.Play.{posts, input}
use Rattle.dos_world.specs.declared.Question.TheVariants.{Signals as signals_question}
use Rattle.dos_world.specs.declared.Question.TheVariants.{Input as input_question}
use Rattle.dos_world.specs.declared.Question.TheVariants.{End as end_question}
use Rattle.dos_world.specs.declared.Ending.TheVariants.{Done}
use Rattle.flat_machine.specs.Computing.{computing}
use Rattle.elf_image.specs.Image.{Image}
use Rattle.flat_machine.specs.Opening.{needed}
use Rattle.flat_machine.specs.Machine.{machine}
use Rattle.run_examples.proofs.Programs.{program, with_frames, without_work, ended}

-- a store at the end of the stack's page reaches no page behind it: sw x0, 16(x2) at 0xF0000000
behind_the_stack : without_work
    (machine (program (0x00012823 ∷ []) ∷ []) (with_frames 17) (posts [] ∷ []))
    ≡ ended (signals_question 1 ∷ end_question Done 1 ∷ []) [] (Some 139 ∷ []) Done 1
unfolding computing
behind_the_stack = refl

-- the word at 0xEFFFFFFC is the stack's last: sw x0, 12(x2); then process_exit with 0
the_stack's_last_word : without_work
    (machine (program (0x00012623 ∷ 0x00200893 ∷ 0x00000073 ∷ []) ∷ []) (with_frames 17)
    (posts [] ∷ [])) ≡ ended (signals_question 1 ∷ end_question Done 1 ∷ []) []
    (Some 0 ∷ []) Done 1
unfolding computing
the_stack's_last_word = refl

-- code in a page without W is read and run, and a store to it is fault 11: auipc x5, 0; lw x6,
-- 0(x5); sw x6, 0(x5)
a_store_without_the_right : without_work
    (machine (record {
      entry = 0x10000;
      parts =
          record {
            address = 0x10000;
            bytes = 0x97 ∷ 0x02 ∷ 0 ∷ 0 ∷ 0x03 ∷ 0xA3 ∷ 0x02 ∷ 0
                ∷ 0x23 ∷ 0xA0 ∷ 0x62 ∷ 0 ∷ [];
            zeros = 0;
            write = false;
            exec = true;
            index =
                0;
          } ∷ [];
    } ∷ []) (with_frames 17) (posts [] ∷ []))
    ≡ ended (signals_question 1 ∷ end_question Done 1 ∷ []) [] (Some 139 ∷ []) Done 1
unfolding computing
a_store_without_the_right = refl

-- a jump to the stack, which has no X, is fault 11: jalr x0, 0(x2)
a_jump_into_the_stack : without_work
    (machine (program (0x00010067 ∷ []) ∷ []) (with_frames 17) (posts [] ∷ []))
    ≡ ended (signals_question 1 ∷ end_question Done 1 ∷ []) [] (Some 139 ∷ []) Done 1
unfolding computing
a_jump_into_the_stack = refl

-- input in pieces of four
copies_pieces : without_work
    (machine (program
    (0x00700893 ∷ 0x00000513 ∷ 0xFC010593 ∷ 0x04000613 ∷ 0x00000073 ∷ 0x00050C63
    ∷ 0x00050613 ∷ 0x00800893 ∷ 0x00100513 ∷ 0x00000073 ∷ 0xFD9FF06F ∷ 0x00200893
    ∷ 0x00000073 ∷ []) ∷ []) (with_frames 17)
    (posts [] ∷ input (codes "0123") ∷ input (codes "4567") ∷ input (codes "89") ∷ input [] ∷ []))
    ≡ ended (signals_question 1 ∷ input_question 1 1 64 ∷ input_question 1 1 64
    ∷ input_question 1 1 64 ∷ input_question 1 1 64 ∷ end_question Done 1 ∷ [])
    (codes "0123456789") (Some 0 ∷ []) Done 1
unfolding computing
copies_pieces = refl

-- of a linker's file: a page of headers and code, and one of data
linked : Image
linked = record {
  entry = 0x000100B4;
  parts =
      record {
        address = 0x00010000;
        bytes = replicate 192 0;
        zeros = 0;
        write = false;
        exec = true;
        index = 1;
      }
      ∷ record {
        address = 0x000110C0;
        bytes = replicate 4 0;
        zeros = 60;
        write = true;
        exec =
            false;
        index = 2;
      } ∷ [];
}

needs_18 : needed (linked ∷ []) ≡ 18
unfolding linked
needs_18 = refl
