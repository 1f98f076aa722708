-- Small programs, computed by the checker: what is sent, and what is read. What they come to was
-- worked out by hand.
use Rattle.std.specs.Prelude.{[], ◌∷◌, ◌++◌, Some, ◌≡◌, refl, codes}
use Rattle.dos_world.specs.Play.{posts, input, reading}
use Rattle.dos_world.specs.declared.Question.TheVariants.{Signals, Input, Clock, End}
use Rattle.dos_world.specs.declared.Ending.TheVariants.{Done}
use Rattle.flat_machine.specs.Computing.{computing}
use Rattle.elf_image.specs.Image.{Image}
use Rattle.flat_machine.specs.Machine.{machine, ends, needs}
use Rattle.run_examples.proofs.Programs.{program, with_frames, ended, without_work}

-- write of three bytes to output, then process_exit with 0
abbrev pub says_hi : Image
says_hi = program (0x00800893 ∷ 0x00100513 ∷ 0x00000597 ∷ 0x01C58593 ∷ 0x00300613 ∷ 0x00000073
    ∷ 0x00200893 ∷ 0x00000513 ∷ 0x00000073 ∷ 0x000A6948 ∷ [])

three_bytes_are_sent : without_work (machine (says_hi ∷ []) (with_frames 17) (posts [] ∷ []))
    ≡ ended (Signals 1 ∷ End Done 1 ∷ []) (codes "Hi" ++ 10 ∷ []) (Some 0 ∷ []) Done 1
unfolding computing
three_bytes_are_sent = refl

-- two images are two processes; the first exits with 7
two_processes : without_work
    (machine (program (0x00200893 ∷ 0x00700513 ∷ 0x00000073 ∷ []) ∷ says_hi ∷ [])
    (with_frames 34) (posts [] ∷ []))
    ≡ ended (Signals 1 ∷ End Done 1 ∷ []) (codes "Hi" ++ 10 ∷ []) (Some 7 ∷ Some 0 ∷ []) Done 1
unfolding computing
two_processes = refl

-- the same to error
an_error_is_sent : without_work
    (machine (program
    (0x00800893 ∷ 0x00200513 ∷ 0x00000597 ∷ 0x01C58593 ∷ 0x00300613 ∷ 0x00000073
    ∷ 0x00200893 ∷ 0x00000513 ∷ 0x00000073 ∷ 0x000A6948 ∷ []) ∷ []) (with_frames 17)
    (posts [] ∷ []))
    ≡ ends (record {
      questions = Signals 1 ∷ End Done 1 ∷ [];
      output = [];
      error =
          codes "Hi" ++ 10 ∷ [];
      statuses = Some 0 ∷ [];
      ending = Done;
      rounds = 1;
      work =
          0;
    })
unfolding computing
an_error_is_sent = refl

-- reads of at most 64 bytes at sp - 64 and writes of what came, until nothing comes
abbrev copies : Image
copies = program (0x00700893 ∷ 0x00000513 ∷ 0xFC010593 ∷ 0x04000613 ∷ 0x00000073 ∷ 0x00050C63
    ∷ 0x00050613 ∷ 0x00800893 ∷ 0x00100513 ∷ 0x00000073 ∷ 0xFD9FF06F ∷ 0x00200893 ∷ 0x00000073
    ∷ [])

input_is_copied : without_work
    (machine (copies ∷ []) (with_frames 17)
    (posts [] ∷ input (codes "0123456789") ∷ input [] ∷ []))
    ≡ ended (Signals 1 ∷ Input 1 1 64 ∷ Input 1 1 64 ∷ End Done 1 ∷ []) (codes "0123456789")
    (Some 0 ∷ []) Done 1
unfolding computing
input_is_copied = refl

-- where the second reading has no answer, what was sent until there stands
the_second_reading_is_asked : machine (copies ∷ []) (with_frames 17)
    (posts [] ∷ input (codes "0123456789") ∷ []) ≡ needs (Input 1 1 64) (codes "0123456789") []
unfolding computing
the_second_reading_is_asked = refl

-- clock, and then exit with its low half
the_clock_is_asked : without_work
    (machine (program (0x01600893 ∷ 0x00000073 ∷ 0x00200893 ∷ 0x00000073 ∷ []) ∷ [])
    (with_frames 17) (posts [] ∷ reading 0x100000005 ∷ []))
    ≡ ended (Signals 1 ∷ Clock 1 1 ∷ End Done 1 ∷ []) [] (Some 5 ∷ []) Done 1
unfolding computing
the_clock_is_asked = refl
