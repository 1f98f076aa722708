-- The program has a file, whose image is the definition's.
use Rattle.std.proofs.Common.{◌≡◌, ℕ, ◌+◌, ◌*◌, ◌≤◌, Bool, true, List, ◌∷◌, map, Ok, Err, refl, ap}
use Rattle.std.proofs.Common.{◌∙◌, arith}
use Rattle.std.specs.Prelude.{nat_le, nat_lt, IsOkAnd}
use Rattle.std.proofs.lemmas.Bool.Decides.{nat_tests}
use Rattle.rv_isa.specs.Encoding.{encoding}
use Rattle.elf_image.specs.Image.{Image, image}
use Rattle.rv_asm.specs.declared.error.AsmError.{AsmError}
use Rattle.rv_asm.specs.Words.{assembled, code_from}
use Rattle.rv_asm.specs.File.{code_of, finished, image_of_source, is_in_range, data_parts}
use Rattle.rv_asm.proofs.FinishLaws.{finished-made}
use Rattle.generated_group.specs.Generated.{generated, program, program_part}
use Rattle.generated_group.specs.Stretches.{told}

-- its words are those of the listing
pub assembled-told : (number threads : ℕ)
    → assembled (told number threads) ≡ Ok (code_of (map encoding (program number threads)))
unfolding told code_from
assembled-told number threads = refl

-- the pages: there are some, they end below the stack, and they begin behind the code
some_pages : (threads : ℕ) → nat_lt 0 (0 + 4096 * (threads + 1)) ≡ true
some_pages threads = grind (arith, nat_tests)

pages_below : (threads : ℕ) → threads ≤ 32
    → nat_le (0x20000 + (0 + 4096 * (threads + 1))) 0xEFFF0000 ≡ true
pages_below threads few = grind (arith, nat_tests)

code_first : (threads : ℕ) → nat_lt 0x10000 (0x20000 + (0 + 4096 * (threads + 1))) ≡ true
code_first threads = grind (arith, nat_tests)

is_in_range-told : (number threads : ℕ) → threads ≤ 32
    → is_in_range (told number threads) ≡ true
unfolding told
is_in_range-told number threads few =
    rw (some_pages threads, pages_below threads few, code_first threads) refl

image_of-told : (number threads : ℕ)
    → image_of_source (told number threads) (code_of (map encoding (program number threads)))
    ≡ generated number threads
unfolding told generated
image_of-told number threads =
    ap (λ (some : Bool). record {
      entry = 0x10000;
      parts = program_part number threads ∷ data_parts some (told number threads).data_part;
    }) (some_pages threads)

-- it has a file
pub finished-told : (number threads : ℕ) (error : AsmError) → threads ≤ 32
    → finished (told number threads) ≡ Err error → ⊥
finished-told number threads error few refused =
    let made = finished-made (told number threads) (code_of (map encoding (program number threads)))
    (is_in_range-told number threads few) (assembled-told number threads) in
    cc

-- which reads as the definition's image
pub image-told : (number threads : ℕ) (file : List ℕ)
    → IsOkAnd (assembled (told number threads))
    (λ code. image file ≡ Ok (image_of_source (told number threads) code))
    → image file ≡ Ok (generated number threads)
image-told number threads file read =
    let at : image file
    ≡ Ok (image_of_source (told number threads) (code_of (map encoding (program number threads)))) =
    rw assembled-told at read in
    at ∙ ap (λ (i : Image). Ok i) (image_of-told number threads)
