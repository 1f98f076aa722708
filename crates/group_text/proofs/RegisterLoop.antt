-- Registers whose numbers are read one after another: those that were read stand in front of zeros.
use Rattle.std.proofs.Common.{◌≡◌, ℕ, suc, ◌+◌, ◌-◌, ◌<◌, Result, List, [], ◌∷◌, ◌++◌, length, drop}
use Rattle.std.proofs.Common.{None, Ok}
use Rattle.std.proofs.Common.{Err, refl, sym, ap, subst, ◌∙◌, arith, append-nil}
use Rattle.std.specs.Prelude.{replicate, slice_set}
use Rattle.std.proofs.lemmas.List.{length-append}
use Rattle.dos_world.specs.World.{Registers, set, blank}
use Rattle.text_fields.specs.declared.refusal.FieldError.{FieldError}
use Rattle.text_fields.specs.Reading.{first_number}
use Rattle.text_fields.specs.Formats.{u32_in, any, many}
use Rattle.text_fields.proofs.ListLoops.{HasRead, none_read, one_more, refused_there, all_read}
use Rattle.std.specs.Int.{w32}
use Rattle.group_text.specs.GroupText.{to_registers}

abbrev one_number : ℕ → ℕ → List ℕ → Result (ℕ × List ℕ) FieldError
one_number s = (u32_in any).read

abbrev same : ℕ → ℕ → ℕ
same s x = s

-- with these numbers behind x0
abbrev pub numbered_by : ℕ → List ℕ → Registers
numbered_by pc numbers = to_registers (pc, (numbers, None))

set_in_front : (front : List ℕ) (i v x : ℕ) (xs : List ℕ) → length front ≡ i
    → slice_set (front ++ x ∷ xs) i v ≡ (front ++ v ∷ []) ++ xs
set_in_front [] i v x xs is = subst (λ (j : ℕ). slice_set (x ∷ xs) j v ≡ v ∷ xs) is refl
set_in_front (y ∷ front) i v x xs is =
    subst (λ (j : ℕ). slice_set (y ∷ (front ++ x ∷ xs)) j v ≡ y ∷ ((front ++ v ∷ []) ++ xs)) is
    (ap (λ (l : List ℕ). y ∷ l) (set_in_front front (length front) v x xs refl))

-- so many numbers were read, into these registers
pub record AreRead (pc end : ℕ) (bytes : List ℕ) (count : ℕ) (regs : Registers) (rest : List ℕ)
    : Type 0 where
  pub front : List ℕ
  pub left : ℕ
  pub all : 31 ≡ left + count
  pub len : length front ≡ count
  pub regs_are : regs ≡ numbered_by pc (front ++ replicate left 0)
  pub read : HasRead one_number same end 31 0 bytes front left 0 rest

pub regs_begin : (pc end : ℕ) (bytes : List ℕ) → AreRead pc end bytes 0 (blank pc) bytes
regs_begin pc end bytes = record {
  front = [];
  left = 31;
  all = refl;
  len = refl;
  regs_are = refl;
  read = none_read one_number same end 31 0 bytes;
}

one_is : (end : ℕ) (rest : List ℕ) (x : ℕ × List ℕ) → first_number w32 end rest ≡ Ok x
    → (u32_in any).read end rest ≡ Ok x
one_is end rest x is = rw is refl

module _ (pc end : ℕ) (bytes : List ℕ) (count : ℕ) (regs : Registers) (rest : List ℕ)
    (so : AreRead pc end bytes count regs rest) where
  one_further : (number : ℕ) (after : List ℕ) (new : Registers) → count < 31
      → first_number w32 end rest ≡ Ok (number, after) → new ≡ set regs (suc count) number
      → AreRead pc end bytes (suc count) new after
  one_further number after new low is new_is =
      let m : ℕ = so.left - 1 in
      let left_is : so.left ≡ suc m = omega (arith, so.all) in
      record {
        front = so.front ++ number ∷ [];
        left = m;
        all = omega (arith, so.all);
        len = length-append so.front (number ∷ []) ∙ omega (arith, so.len);
        regs_are = new_is ∙ ap (λ (r : Registers). set r (suc count) number) so.regs_are
            ∙ ap (numbered_by pc)
            (ap (λ (k : ℕ). slice_set (so.front ++ replicate k 0) count number) left_is
            ∙ set_in_front so.front count number 0 (replicate m 0) so.len);
        read = one_more one_number same end 31 0 bytes so.front m 0 rest (number, after)
            (subst (λ (k : ℕ). HasRead one_number same end 31 0 bytes so.front k 0 rest) left_is
            so.read)
            (one_is end rest (number, after) is);
      }

  pub regs_go_on : (number : ℕ) (after : List ℕ) (new : Registers) (next : ℕ) → next ≡ suc count
      → count < 31 → first_number w32 end rest ≡ Ok (number, after) → new ≡ set regs next number
      → AreRead pc end bytes next new after
  regs_go_on number after new next next_is low is new_is =
      subst (λ (k : ℕ). AreRead pc end bytes k new after) (sym next_is)
      (one_further number after new low is
      (subst (λ (k : ℕ). new ≡ set regs k number) next_is new_is))

  pub regs_stop : (e : FieldError) → count < 31 → first_number w32 end rest ≡ Err e
      → (many 31 (u32_in any)).read end bytes ≡ Err e
  regs_stop e low is =
      let m : ℕ = so.left - 1 in
      let left_is : so.left ≡ suc m = omega (arith, so.all) in
      refused_there one_number same end 31 0 bytes so.front m 0 rest e
      (subst (λ (k : ℕ). HasRead one_number same end 31 0 bytes so.front k 0 rest) left_is so.read)
      (rw is refl)

  at_end : count ≡ 31 → regs ≡ numbered_by pc so.front
  at_end all =
      let none : so.left ≡ 0 = omega (arith, so.all) in
      so.regs_are ∙ ap (λ (k : ℕ). numbered_by pc (so.front ++ replicate k 0)) none
      ∙ ap (numbered_by pc) (append-nil so.front)

  pub regs_end : count ≡ 31
      → (many 31 (u32_in any)).read end bytes ≡ Ok (drop 1 regs.numbers, rest)
  regs_end all =
      let none : so.left ≡ 0 = omega (arith, so.all) in
      rw (at_end all)
      (all_read one_number same end 31 0 bytes so.front 0 rest
      (subst (λ (k : ℕ). HasRead one_number same end 31 0 bytes so.front k 0 rest) none so.read))

  pub regs_shaped : count ≡ 31 → regs ≡ numbered_by pc (drop 1 regs.numbers)
  regs_shaped all =
      let e = at_end all in
      e ∙ ap (λ (r : Registers). numbered_by pc (drop 1 r.numbers)) (sym e)
