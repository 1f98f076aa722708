-- Lines that are put one after another, of the elements of a list.
use Rattle.std.proofs.Common.{◌≡◌, ℕ, zero, suc, ◌+◌, ◌<◌, ◌≤◌, List, [], ◌∷◌, ◌++◌, length, drop}
use Rattle.std.proofs.Common.{map}
use Rattle.std.proofs.Common.{flat_map, Some, refl, sym, ap, ◌∙◌, append_assoc}
use Rattle.std.proofs.Common.{append-nil, arith}
use Rattle.std.specs.Prelude.{slice_get}
use Rattle.std.specs.Global.{Vec}
use Rattle.std.proofs.lemmas.List.{map-append}
use Rattle.dos_world.specs.Numbered.{map_from}
use Rattle.kernel_objects.specs.Pipework.{vector_bytes}

-- ---- a list by its places

pub drop_at : {X : Type 0} (xs : List X) (i : ℕ) (x : X) → slice_get xs i ≡ Some x
    → drop i xs ≡ x ∷ drop (i + 1) xs
drop_at [] i x is = cc
drop_at (y ∷ ys) zero x is = let same : y ≡ x = cc in ap (λ z. z ∷ ys) same
drop_at (y ∷ ys) (suc i) x is =
    let next : suc (i + 1) ≡ suc i + 1 = omega arith in
    drop_at ys i x is ∙ ap (λ n. x ∷ drop n (y ∷ ys)) next

pub none_from : {X : Type 0} (xs : List X) (i : ℕ) → length xs ≤ i → drop i xs ≡ []
none_from [] zero long = refl
none_from [] (suc i) long = refl
none_from (x ∷ xs) zero long = absurd (omega (arith, long))
none_from (x ∷ xs) (suc i) long = none_from xs i (omega (arith, long))

pub at_place : {X : Type 0} (xs : List X) (i : ℕ) → i < length xs
    → (x : X) × (slice_get xs i ≡ Some x)
at_place [] i less = absurd (omega (arith, less))
at_place (x ∷ xs) zero less = (x, refl)
at_place (x ∷ xs) (suc i) less = at_place xs i (omega (arith, less))

-- ---- a line that is pushed

pub pushed : (vs new : List (Vec ℕ)) (v : Vec ℕ) (text : List ℕ) → new ≡ vs ++ v ∷ []
    → v.items ≡ text → vector_bytes new ≡ vector_bytes vs ++ text ∷ []
pushed vs new v text added is =
    ap vector_bytes added ∙ map-append (λ (line : Vec ℕ). line.items) vs (v ∷ [])
    ∙ ap (λ (t : List ℕ). vector_bytes vs ++ t ∷ []) is

-- ---- one line an element

module _ {X : Type 0} (f : X → List ℕ) (xs : List X) (i : ℕ) (lines : List (List ℕ))
    (whole : List (List ℕ)) (before : lines ++ map f (drop i xs) ≡ whole) where
  pub line_added : (x : X) (more : List (List ℕ)) → slice_get xs i ≡ Some x
      → more ≡ lines ++ f x ∷ [] → more ++ map f (drop (i + 1) xs) ≡ whole
  line_added x more is added =
      ap (λ (ls : List (List ℕ)). ls ++ map f (drop (i + 1) xs)) added
      ∙ append_assoc lines (f x ∷ []) (map f (drop (i + 1) xs))
      ∙ ap (λ (ys : List X). lines ++ map f ys) (sym (drop_at xs i x is)) ∙ before

  pub lines_done : length xs ≤ i → lines ≡ whole
  lines_done long =
      sym (append-nil lines) ∙ ap (λ (ys : List X). lines ++ map f ys) (sym (none_from xs i long))
      ∙ before

-- ---- some lines an element, by its place

module _ {X : Type 0} (f : ℕ → X → List (List ℕ)) (n : ℕ) (xs : List X) where
  -- those of the elements from this place on, of which the first of all has number n
  abbrev pub rows_from : (i : ℕ) → List (List ℕ)
  rows_from i = flat_map (λ x. x) (map_from (n + i) f (drop i xs))

module _ {X : Type 0} (f : ℕ → X → List (List ℕ)) (n : ℕ) (xs : List X) (i : ℕ)
    (lines whole : List (List ℕ)) (before : lines ++ rows_from f n xs i ≡ whole) where
  pub rows_added : (x : X) (more : List (List ℕ)) → slice_get xs i ≡ Some x
      → more ≡ lines ++ f (n + i) x → more ++ rows_from f n xs (i + 1) ≡ whole
  rows_added x more is added =
      let next : n + (i + 1) ≡ suc (n + i) = omega arith in
      let rest = flat_map (λ x. x) (map_from (suc (n + i)) f (drop (i + 1) xs)) in
      ap (λ (ls : List (List ℕ)). ls ++ rows_from f n xs (i + 1)) added
      ∙ ap (λ k. (lines ++ f (n + i) x) ++ flat_map (λ x. x) (map_from k f (drop (i + 1) xs))) next
      ∙ append_assoc lines (f (n + i) x) rest
      ∙ ap (λ (ys : List X). lines ++ flat_map (λ x. x) (map_from (n + i) f ys))
      (sym (drop_at xs i x is))
      ∙ before

  pub rows_done : length xs ≤ i → lines ≡ whole
  rows_done long =
      sym (append-nil lines)
      ∙ ap (λ (ys : List X). lines ++ flat_map (λ x. x) (map_from (n + i) f ys))
      (sym (none_from xs i long))
      ∙ before

-- ---- one line an element, by its place

module _ {X : Type 0} (f : ℕ → X → List ℕ) (n : ℕ) (xs : List X) where
  abbrev pub lines_from : (i : ℕ) → List (List ℕ)
  lines_from i = map_from (n + i) f (drop i xs)

module _ {X : Type 0} (f : ℕ → X → List ℕ) (n : ℕ) (xs : List X) (i : ℕ)
    (lines whole : List (List ℕ)) (before : lines ++ lines_from f n xs i ≡ whole) where
  pub numbered_added : (x : X) (more : List (List ℕ)) → slice_get xs i ≡ Some x
      → more ≡ lines ++ f (n + i) x ∷ [] → more ++ lines_from f n xs (i + 1) ≡ whole
  numbered_added x more is added =
      let next : n + (i + 1) ≡ suc (n + i) = omega arith in
      let rest = map_from (suc (n + i)) f (drop (i + 1) xs) in
      ap (λ (ls : List (List ℕ)). ls ++ lines_from f n xs (i + 1)) added
      ∙ ap (λ k. (lines ++ f (n + i) x ∷ []) ++ map_from k f (drop (i + 1) xs)) next
      ∙ append_assoc lines (f (n + i) x ∷ []) rest
      ∙ ap (λ (ys : List X). lines ++ map_from (n + i) f ys) (sym (drop_at xs i x is))
      ∙ before

  pub numbered_done : length xs ≤ i → lines ≡ whole
  numbered_done long =
      sym (append-nil lines)
      ∙ ap (λ (ys : List X). lines ++ map_from (n + i) f ys) (sym (none_from xs i long))
      ∙ before

-- ---- some of an element

module _ {X A : Type 0} (f : X → List A) (xs : List X) (i : ℕ) (lines whole : List A)
    (before : lines ++ flat_map f (drop i xs) ≡ whole) where
  pub some_added : (x : X) (more : List A) → slice_get xs i ≡ Some x
      → more ≡ lines ++ f x → more ++ flat_map f (drop (i + 1) xs) ≡ whole
  some_added x more is added =
      ap (λ (ls : List A). ls ++ flat_map f (drop (i + 1) xs)) added
      ∙ append_assoc lines (f x) (flat_map f (drop (i + 1) xs))
      ∙ ap (λ (ys : List X). lines ++ flat_map f ys) (sym (drop_at xs i x is)) ∙ before

  pub some_done : length xs ≤ i → lines ≡ whole
  some_done long =
      sym (append-nil lines)
      ∙ ap (λ (ys : List X). lines ++ flat_map f ys) (sym (none_from xs i long)) ∙ before
