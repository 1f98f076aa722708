-- Traces of small runs, computed by the checker.
use Rattle.std.specs.Fmt.{digits}
use Rattle.std.specs.Prelude.{ℕ, zero, suc, true, [], ◌∷◌, ◌++◌, List, ◌≡◌, refl, codes, flat_map}
use Rattle.dos_world.specs.Bytes.{bytes_of}
use Rattle.dos_world.specs.declared.Config.{Config}
use Rattle.dos_world.specs.Play.{posts}
use Rattle.dos_world.specs.declared.Owner.TheVariants.{Free, Shared, Of}
use Rattle.dos_world.specs.declared.Scheme.TheVariants.{Ownership}
use Rattle.flat_machine.specs.Computing.{computing}
use Rattle.elf_image.specs.Image.{Image}
use Rattle.flat_machine.specs.Opening.{opening}
use Rattle.page_trace.specs.Lines.{change_lines}
use Rattle.page_trace.specs.Trace.{Change, trace}

-- an image of these instruction words at 0x10000, with all rights, entered at the first
abbrev program : List ℕ → Image
program words =
    record {
      entry = 0x10000;
      parts =
          record {
            address = 0x10000;
            bytes = flat_map (bytes_of 4) words;
            zeros = 0;
            write = true;
            exec = true;
            index = 0;
          } ∷ [];
    }

abbrev with_frames : ℕ → Config
with_frames frames = record { quantum = 1000; rounds = 100000; frames = frames; scheme = Ownership }

-- these frames, from one on, go from a thread to Free
abbrev freed : (round from count thread : ℕ) → List Change
freed round from zero thread = []
freed round from (suc n) thread =
    record { round = round; frame = from; before = Of thread; after = Free }
    ∷ freed round (suc from) n thread

-- A program that ends at once has all its frames freed in the first round.
smallest : trace (opening (program (0x00200893 ∷ 0x00000073 ∷ []) ∷ []) (with_frames 17))
    (with_frames 17) (posts [] ∷ []) ≡ freed 1 0 17 1
unfolding computing
smallest = refl

-- Two threads race for a word of the image's page: what is granted within a round and taken again
-- in it isn't seen.
pub race : trace (opening (program
    (0x00300893 ∷ 0x00000517 ∷ 0x01450513 ∷ 0x00000073 ∷ 0x01700893 ∷ 0x00000073
    ∷ 0x00000417 ∷ 0x03842283 ∷ 0x01700893 ∷ 0x00000073 ∷ 0x00128293
    ∷ 0x02542C23 ∷ 0x00000073 ∷ 0x00800893 ∷ 0x00100513 ∷ 0x03840593 ∷ 0x00100613 ∷ 0x00000073
    ∷ 0x00100893 ∷ 0x00000073 ∷ 0x00000030 ∷ []) ∷ []) (with_frames 17)) (with_frames 17)
    (posts [] ∷ posts [] ∷ posts [] ∷ posts [] ∷ [])
    ≡ record { round = 2; frame = 0; before = Of 1; after = Shared }
    ∷ record { round = 3; frame = 0; before = Shared; after = Of 2 }
    ∷ record { round = 4; frame = 0; before = Of 2; after = Free } ∷ freed 4 1 16 1
unfolding computing
race = refl

the_lines : change_lines (record { round = 2; frame = 0; before = Of 1; after = Shared }
    ∷ record { round = 4; frame = 16; before = Of 1; after = Free } ∷ [])
    ≡ codes "round 2 frame 0 thread 1 to shared" ++ 10
    ∷ codes "round 4 frame 16 thread 1 to free" ++ 10 ∷ []
unfolding digits
the_lines = refl
