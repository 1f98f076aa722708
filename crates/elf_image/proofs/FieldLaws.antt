-- A number of the file, by the bytes from its place on.
use Rattle.std.proofs.Common.{◌≡◌, ◌∙◌, ap, ℕ, ◌-◌, ◌≤◌, List, length, arith}
use Rattle.std.specs.Prelude.{drop, take}
use Rattle.std.proofs.lemmas.List.{length-drop, take_all}
use Rattle.byteorder.specs.Endian.{little_number}
use Rattle.elf_image.specs.Fields.{half, word}

-- all that is behind a place
abbrev behind : List ℕ → ℕ → List ℕ
behind bytes place = take (length bytes - place) (drop place bytes)

behind_is : (bytes : List ℕ) (place : ℕ) → behind bytes place ≡ drop place bytes
behind_is bytes place =
    let count : length (drop place bytes) ≡ length bytes - place = length-drop place bytes in
    let few : length (drop place bytes) ≤ length bytes - place = omega (arith, count) in
    take_all (length bytes - place) (drop place bytes) few

half_behind : (bytes : List ℕ) (place : ℕ) → little_number 2 (drop place bytes) ≡ half bytes place
unfolding half
half_behind bytes place = omega arith

word_behind : (bytes : List ℕ) (place : ℕ) → little_number 4 (drop place bytes) ≡ word bytes place
unfolding word
word_behind bytes place = omega arith

pub half_is : (bytes : List ℕ) (place : ℕ) → little_number 2 (behind bytes place) ≡ half bytes place
half_is bytes place = ap (little_number 2) (behind_is bytes place) ∙ half_behind bytes place

pub word_is : (bytes : List ℕ) (place : ℕ) → little_number 4 (behind bytes place) ≡ word bytes place
word_is bytes place = ap (little_number 4) (behind_is bytes place) ∙ word_behind bytes place
