-- The file of a builder whose parts are in range has the builder's image.
use Rattle.std.proofs.Common.{◌≡◌, ℕ, suc, ◌+◌, ◌*◌, ◌%◌, ◌≤◌, ◌⊎◌, inl, inr, Bool, true}
use Rattle.std.proofs.Common.{false, not, List, [], ◌∷◌, ◌++◌, length, Option, Result, Ok, Err}
use Rattle.std.proofs.Common.{refl, ap, sym, subst, ◌∙◌, append_assoc, arith, length-append}
use Rattle.std.specs.Prelude.{nat_le, ◌==◌, IsOkAnd}
use Rattle.std.proofs.lemmas.Bool.{ltb-true, leb-true, eqb-false, not-true, and_parts}
use Rattle.std.proofs.lemmas.Bool.{or_cases}
use Rattle.elf_image.specs.Image.{image}
use Rattle.rv_asm.specs.declared.error.AsmError.{AsmError}
use Rattle.rv_asm.specs.declared.error.AsmError.TheVariants as error
use Rattle.rv_asm.specs.declared.item.Item.{Item}
use Rattle.rv_asm.specs.declared.item.Item.TheVariants.{Half, Word, Jump, Branch}
use Rattle.rv_asm.specs.Source.{Source, halfwords_of, data_size, halves_in, has_data}
use Rattle.rv_asm.specs.Words.{word_of, before, bytes_by, code_from, assembled}
use Rattle.rv_asm.specs.File.{code_flags, code_part, data_parts, do_overlap, file_of}
use Rattle.rv_asm.specs.File.{finished, headers_by, image_of_source, is_code_placed, is_data_placed}
use Rattle.rv_asm.specs.File.{is_in_range, is_within_parts, is_short}
use Rattle.rv_asm.proofs.FileFields.{one, two}
use Rattle.rv_asm.proofs.ImageLaws.{IsCode, image-code, image-both}

-- ---- what is in range

-- where the data part of a source with so many words is
pub record DataIsPlaced (s : Source) (count : ℕ) : Type 0 where
  pub above : 0x1000 ≤ s.data_part.address
  pub below : s.data_part.address + data_size s.data_part ≤ 0xEFFF0000
  pub apart : do_overlap s.base (2 * count) s.data_part.address (data_size s.data_part) ≡ false

pub record IsPlaced (s : Source) (count : ℕ) : Type 0 where
  pub some : 1 ≤ count
  pub above : 0x1000 ≤ s.base
  pub below : s.base + 2 * count ≤ 0xEFFF0000
  pub data_placed : (has_data s ≡ false) ⊎ DataIsPlaced s count

data_placed_of : (s : Source) → is_data_placed s ≡ true → DataIsPlaced s (halfwords_of s.items)
data_placed_of s h =
    let size : ℕ = data_size s.data_part in
    let both = and_parts (is_within_parts s.data_part.address (data_size s.data_part)) _ h in
    let ends = and_parts (nat_le 0x1000 s.data_part.address) _ both.0 in
    record {
      above = leb-true 0x1000 s.data_part.address ends.0;
      below = leb-true _ _ ends.1;
      apart = not-true _ both.1;
    }

pub placed_of : (s : Source) → is_in_range s ≡ true → IsPlaced s (halfwords_of s.items)
placed_of s h =
    let both = and_parts (is_code_placed s) _ h in
    let code = and_parts (not (halfwords_of s.items == 0)) _ both.0 in
    let ends = and_parts (nat_le 0x1000 s.base) _ code.1 in
    let some = eqb-false (halfwords_of s.items) 0 (not-true _ code.0) in
    record {
      some = omega (arith, some);
      above = leb-true 0x1000 s.base ends.0;
      below = leb-true _ _ ends.1;
      data_placed = elim (or_cases (not (has_data s)) (is_data_placed s) both.1) [
        | inl none ↦
            inl (not-true _ none)
        | inr placed ↦ inr (data_placed_of s placed)
      ];
    }

-- ---- the code

length-bytes_by : (item : Item) (n : ℕ) → length (bytes_by item n) ≡ 2 * halves_in item
length-bytes_by (Half value) n = refl
length-bytes_by (Word value) n = refl
length-bytes_by (Jump rd label) n = refl
length-bytes_by (Branch op rs1 rs2 label) n = refl

length-before : (item : Item) (first : Result ℕ AsmError) (rest : Result (List ℕ) AsmError)
    (count : ℕ) (code : List ℕ)
    → ((others : List ℕ) → rest ≡ Ok others → length others ≡ 2 * count)
    → before item first rest ≡ Ok code → length code ≡ 2 * (halves_in item + count)
length-before item (Err e) rest count code known h = absurd cc
length-before item (Ok n) (Err e) count code known h = absurd cc
length-before item (Ok n) (Ok others) count code known h =
    let same : (bytes_by item n ++ others) ≡ code = cc in
    let all = sym (ap length same) ∙ length-append (bytes_by item n) others in
    let left = known others refl in
    omega (arith, all, left, length-bytes_by item n)

-- each halfword has two bytes
pub length-code_from : (labels : List (Option ℕ)) (place : ℕ) (items : List Item) (code : List ℕ)
    → code_from labels place items ≡ Ok code → length code ≡ 2 * halfwords_of items
unfolding code_from
length-code_from labels place [] code h = let none : [] ≡ code = cc in sym (ap length none)
length-code_from labels place (item ∷ items) code h =
    length-before item (word_of labels place item)
    (code_from labels (place + halves_in item) items) (halfwords_of items) code
    (length-code_from labels (place + halves_in item) items) h

-- ---- the image

code_placed : (s : Source) (code : List ℕ) → IsPlaced s (halfwords_of s.items)
    → length code ≡ 2 * halfwords_of s.items → s.base % 4096 ≡ 0
    → IsCode s.base (2 * halfwords_of s.items) code
code_placed s code p long aligned =
    record {
      aligned = omega (arith, aligned);
      some = omega (arith, p.some);
      len = long;
      above = p.above;
      below = p.below;
    }

image_by : (s : Source) (code : List ℕ) (with_data : Bool) → has_data s ≡ with_data
    → IsPlaced s (halfwords_of s.items) → length code ≡ 2 * halfwords_of s.items → s.base % 4096 ≡ 0
    → image (headers_by with_data s (halfwords_of s.items) ++ code ++ s.data_part.bytes)
    ≡ Ok (record { entry = s.base; parts = code_part s code ∷ data_parts with_data s.data_part })
image_by s code false e p long aligned =
    ap image (append_assoc (one (is_short s) s.base (code_flags s.write) (2 * halfwords_of s.items))
    code s.data_part.bytes)
    ∙ image-code (is_short s) s.base (2 * halfwords_of s.items) s.write code s.data_part.bytes
    (code_placed s code p long aligned)
image_by s code true e p long aligned = elim p.data_placed [
  | inl none ↦ absurd (let no : true ≡ false = sym e ∙ none in cc)
  | inr d ↦
      ap image (append_assoc
      (two (is_short s) s.base (code_flags s.write) (2 * halfwords_of s.items)
      (116 + 2 * halfwords_of s.items) s.data_part.address (length s.data_part.bytes)
      (data_size s.data_part)) code s.data_part.bytes)
      ∙ image-both (is_short s) s.base (2 * halfwords_of s.items) s.write code
      (116 + 2 * halfwords_of s.items) s.data_part.address (length s.data_part.bytes)
      (data_size s.data_part) s.data_part.zeros s.data_part.bytes
      (code_placed s code p long aligned)
      (record {
        behind_code = refl;
        len = refl;
        whole = refl;
        some =
            omega (arith, ltb-true 0 (data_size s.data_part) e);
        above = d.above;
        below =
            d.below;
        apart = d.apart;
      })
]

pub image-file_of : (s : Source) (code : List ℕ) → is_in_range s ≡ true → s.base % 4096 ≡ 0
    → assembled s ≡ Ok code → image (file_of s code) ≡ Ok (image_of_source s code)
unfolding file_of
image-file_of s code range aligned made =
    image_by s code (has_data s) refl (placed_of s range)
    (length-code_from s.labels 0 s.items code made) aligned

-- ---- the answer

pub finished-range : (s : Source) → is_in_range s ≡ false → finished s ≡ Err error.Range
unfolding finished
finished-range s e = rw e refl

pub finished-refused : (s : Source) (refusal : AsmError) → is_in_range s ≡ true
    → assembled s ≡ Err refusal → finished s ≡ Err refusal
unfolding finished
finished-refused s refusal e made = rw (e, made) refl

pub finished-made : (s : Source) (code : List ℕ) → is_in_range s ≡ true → assembled s ≡ Ok code
    → finished s ≡ Ok (file_of s code)
unfolding finished
finished-made s code e made = rw (e, made) refl

-- ---- of the code, whose labels and items are the builder's

same_code : (s : Source) (labels : List (Option ℕ)) (items : List Item)
    (answer : Result (List ℕ) AsmError) → labels ≡ s.labels → items ≡ s.items
    → code_from labels 0 items ≡ answer → assembled s ≡ answer
same_code s labels items answer l i made = rw (← l, ← i) made

pub refused_by : (s : Source) (labels : List (Option ℕ)) (items : List Item) (refusal : AsmError)
    → labels ≡ s.labels → items ≡ s.items → is_in_range s ≡ true
    → code_from labels 0 items ≡ Err refusal → finished s ≡ Err refusal
refused_by s labels items refusal l i range made =
    finished-refused s refusal range (same_code s labels items (Err refusal) l i made)

pub file_made : (s : Source) (labels : List (Option ℕ)) (items : List Item)
    (code given file : List ℕ) → labels ≡ s.labels → items ≡ s.items → is_in_range s ≡ true
    → code_from labels 0 items ≡ Ok code → given ≡ code → file ≡ file_of s given
    → finished s ≡ Ok file
file_made s labels items code given file l i range made g f =
    rw (f, g) (finished-made s code range (same_code s labels items (Ok code) l i made))

pub file_read : (s : Source) (labels : List (Option ℕ)) (items : List Item)
    (code given file : List ℕ) → labels ≡ s.labels → items ≡ s.items → is_in_range s ≡ true
    → s.base % 4096 ≡ 0 → code_from labels 0 items ≡ Ok code → given ≡ code
    → file ≡ file_of s given → IsOkAnd (assembled s) (λ c. image file ≡ Ok (image_of_source s c))
file_read s labels items code given file l i range aligned made g f =
    let all = same_code s labels items (Ok code) l i made in
    rw (f, g, all) (image-file_of s code range aligned all)
