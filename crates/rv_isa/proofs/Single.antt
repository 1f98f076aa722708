-- At most one row of the table fits a word: any two rows differ in a bit that both look at.
use Rattle.std.proofs.Common.{◌≡◌, ℕ, ◌≤◌, List, [], ◌∷◌, refl, sym, ap, ◌∙◌, Bool, true, false}
use Rattle.std.proofs.Common.{eq-eqb, length, filter, lit≤}
use Rattle.std.specs.Prelude.{bit_and, not, ◌==◌, ◌&&◌, if◌then◌else◌}
use Rattle.std.proofs.lemmas.Nat.{and_assoc, and_comm}
use Rattle.std.proofs.lemmas.Bool.{and_parts, both_ways, eqb-true, not-true, false_from_ne_true}
use Rattle.rv_isa.specs.Meaning.{Row, fits, rows, base_rows, IsSingle}

abbrev apart : {A : Type 0} → Row A → Row A → Bool
apart r s = not (bit_and r.value s.mask == bit_and s.value r.mask)

abbrev apart_from : {A : Type 0} → Row A → List (Row A) → Bool
apart_from r [] = true
apart_from r (s ∷ ss) = apart r s && apart_from r ss

abbrev pub all_apart : {A : Type 0} → List (Row A) → Bool
all_apart [] = true
all_apart (r ∷ rs) = apart_from r rs && all_apart rs

same_bits : (w m n a b : ℕ) → bit_and w m ≡ a → bit_and w n ≡ b → bit_and a n ≡ bit_and b m
same_bits w m n a b e f =
    sym (ap (λ v. bit_and v n) e) ∙ and_assoc n w m ∙ ap (λ v. bit_and w v) (and_comm m n)
    ∙ sym (and_assoc m w n) ∙ ap (λ v. bit_and v m) f

module _ {A : Type 0} (w : ℕ) where
  not_both : (r s : Row A) → apart r s ≡ true → fits w r ≡ true → fits w s ≡ false
  not_both r s p h = false_from_ne_true (fits w s) (λ k.
      both_ways (bit_and r.value s.mask == bit_and s.value r.mask)
      (not-true (bit_and r.value s.mask == bit_and s.value r.mask) p)
      (eq-eqb (bit_and r.value s.mask) (bit_and s.value r.mask)
      (same_bits w r.mask s.mask r.value s.value (eqb-true (bit_and w r.mask) r.value h)
      (eqb-true (bit_and w s.mask) s.value k))))

  skipped : (s : Row A) (ss : List (Row A)) (b : Bool) → b ≡ false
      → filter (λ row. fits w row) ss ≡ []
      → (if b then s ∷ filter (λ row. fits w row) ss else filter (λ row. fits w row) ss) ≡ []
  skipped s ss true e h = absurd (both_ways true e refl)
  skipped s ss false e h = h

  none_fits : (r : Row A) (ss : List (Row A)) → apart_from r ss ≡ true → fits w r ≡ true
      → filter (λ row. fits w row) ss ≡ []
  none_fits r [] p h = refl
  none_fits r (s ∷ ss) p h =
      let q = and_parts (apart r s) (apart_from r ss) p in
      skipped s ss (fits w s) (not_both r s q.0 h) (none_fits r ss q.1 h)

  one_more : (r : Row A) (rs : List (Row A)) (b : Bool)
      → (b ≡ true → filter (λ row. fits w row) rs ≡ []) → length (filter (λ row. fits w row) rs) ≤ 1
      → length (if b then r ∷ filter (λ row. fits w row) rs else filter (λ row. fits w row) rs) ≤ 1
  one_more r rs true f h = rw (f refl) (lit≤ tt)
  one_more r rs false f h = h

  pub one_fits : (rs : List (Row A)) → all_apart rs ≡ true
      → length (filter (λ row. fits w row) rs) ≤ 1
  one_fits [] p = lit≤ tt
  one_fits (r ∷ rs) p =
      let q = and_parts (apart_from r rs) (all_apart rs) p in
      one_more r rs (fits w r) (λ h. none_fits r rs q.0 h) (one_fits rs q.1)

table_apart : all_apart rows ≡ true
unfolding rows base_rows
table_apart = refl

pub single : (w : ℕ) → IsSingle w
unfolding IsSingle
single w = one_fits w rows table_apart
