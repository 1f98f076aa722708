-- A walk along the children of a process: what it finds, and what it writes.
use Rattle.std.proofs.Common.{◌≡◌, ◌≢◌, ℕ, zero, suc, ◌+◌, ◌-◌, ◌<◌, ◌≤◌, Bool, true, false, cond}
use Rattle.std.proofs.Common.{List, [], ◌∷◌, map, length, get_or, set, slice_get, Option, Some}
use Rattle.std.proofs.Common.{None, inl, inr, refl, sym, ap, ◌∙◌, subst, arith}
use Rattle.std.specs.Prelude.{◌&&◌, nat_lt}
use Rattle.std.proofs.lemmas.Bool.{cases_lt, cases_order}
use Rattle.std.proofs.lemmas.Bool.Decides.{nat_tests}
use Rattle.std.proofs.lemmas.Option.{get_or_from_slice_get, slice_get-get_or, slice_get_within}
use Rattle.dos_world.specs.Numbered.{numbered, map_from}
use Rattle.proc_table.specs.declared.record.Links.{Links}
use Rattle.proc_table.specs.declared.record.Record.{Record}
use Rattle.proc_table.specs.Places.{first_child, has_come, is_child_record, orphan_record}
use Rattle.proc_table.specs.Links.{IsNext, IsWalkable, is_child_at, is_uncollected, passes}
use Rattle.proc_table.specs.Links.{passes_at}
use Rattle.proc_table.proofs.Moved.{child_from, child_to, number_read, read_again}
use Rattle.proc_table.proofs.Ways.{from_child, links_read, on}
use Rattle.proc_table.proofs.Children.{lowest_at, lowest_nowhere}

-- a walk has come to j: a child, or the end, and nobody before it passes
pub record IsReached (test child : ℕ → Bool) (j : ℕ) : Type 0 where
  pub none : (k : ℕ) → k < j → test k ≡ false
  pub low : j ≤ 65536
  pub is : j < 65536 → child j ≡ true

-- who is no child doesn't pass
sieve : (asked : Bool) (p : ℕ) (o : Option Record) → passes (is_uncollected p) o ≡ false
    → passes (is_child_record asked p) o ≡ false
sieve asked p None e = refl
sieve asked p (Some r) e = ap (λ b. b && has_come asked r.kept) e

-- a child passes where it has come
come : (asked : Bool) (p : ℕ) (o : Option Record) (x : Record) → o ≡ Some x
    → passes (is_uncollected p) o ≡ true
    → passes (is_child_record asked p) o ≡ has_come asked x.kept
come asked p o x e t = ap (passes (is_child_record asked p)) e
    ∙ ap (λ b. b && has_come asked x.kept) (sym (ap (passes (is_uncollected p)) e) ∙ t)

module _ {R : List Record} {L : List Links} {p : ℕ} (walk : IsWalkable R L p) where
  -- the first child, and the one after a child, as they are read
  pub first_next : (d : Links) → IsNext (is_child_at R p) 0 (get_or L (p - 1) d).first
  first_next d =
      subst (λ j. IsNext (is_child_at R p) 0 j)
      (ap (λ (l : Links). l.first) (links_read L p (get_or L (p - 1) d) walk.from
      (omega (arith, walk.within, walk.count))
      (read_again L (p - 1) d (omega (arith, walk.from, walk.within, walk.count)))))
      (walk.linked.after p 0 walk.from walk.within (inl refl))

  pub child_next : (n : ℕ) → is_child_at R p n ≡ true → (d : Links)
      → IsNext (is_child_at R p) n (get_or L (n - 1) d).next
  child_next n t d =
      let from : 0 < n = child_from R p n t in
      let to : n ≤ length R = child_to R p n t in
      subst (λ j. IsNext (is_child_at R p) n j)
      (from_child on L p n (λ e. omega arith)
      ∙ ap (λ (l : Links). l.next) (links_read L n (get_or L (n - 1) d) from
      (omega (arith, to, walk.count))
      (read_again L (n - 1) d (omega (arith, from, to, walk.count)))))
      (walk.linked.after p n walk.from walk.within (inr t))

  pub child_within : (n : ℕ) → is_child_at R p n ≡ true → (0 < n) × (n ≤ length R)
  child_within n t = (child_from R p n t, child_to R p n t)

  -- what a walk reads of a child
  child_read : (n : ℕ) → is_child_at R p n ≡ true → (d : Record)
      → numbered R n ≡ Some (get_or R (n - 1) d)
  child_read n t d =
      let from : 0 < n = child_from R p n t in
      let to : n ≤ length R = child_to R p n t in
      number_read R n (get_or R (n - 1) d) from to (read_again R (n - 1) d (omega arith))

  -- ---- the first that has come

  module _ (asked : Bool) where
    abbrev pub Reached : ℕ → Type 0
    Reached j = IsReached (passes_at (is_child_record asked p) R) (is_child_at R p) j

    pub reached_first : (d : Links) → Reached (get_or L (p - 1) d).first
    reached_first d =
        let h = first_next d in
        record {
          none = λ k l. none k (λ a. h.none k a l);
          low = h.low;
          is = h.is;
        }
      where
        none : (k : ℕ) → (0 < k → is_child_at R p k ≡ false)
            → passes_at (is_child_record asked p) R k ≡ false
        none zero h = refl
        none (suc i) h = sieve asked p (numbered R (suc i)) (h (omega arith))

    pub reached_next : (n : ℕ) → n < 65536 → Reached n → (r : Record)
        → has_come asked (get_or R (n - 1) r).kept ≡ false → (d : Links)
        → Reached (get_or L (n - 1) d).next
    reached_next n l reached r not_yet d =
        let t : is_child_at R p n ≡ true = reached.is l in
        let h = child_next n t d in
        record {
          none = λ k b. elim (cases_order k n) [
            | inl e ↦ ap (passes_at (is_child_record asked p) R) e
                ∙ come asked p (numbered R n) (get_or R (n - 1) r) (child_read n t r) t ∙ not_yet
            | inr (inl below) ↦ reached.none k below
            | inr (inr above) ↦ sieve asked p (numbered R k) (h.none k above b)
          ];
          low = h.low;
          is = h.is;
        }

    pub reached_it : (n : ℕ) → n < 65536 → Reached n → (r : Record)
        → has_come asked (get_or R (n - 1) r).kept ≡ true → Some n ≡ first_child asked R p 0
    reached_it n l reached r has =
        let t : is_child_at R p n ≡ true = reached.is l in
        lowest_at asked p n R
        (come asked p (numbered R n) (get_or R (n - 1) r) (child_read n t r) t ∙ has)
        (child_to R p n t) reached.none

    pub reached_none : (n : ℕ) → 65536 ≤ n → Reached n → None ≡ first_child asked R p 0
    reached_none n l reached = lowest_nowhere asked p R (λ k h. reached.none k (omega arith))

-- ---- each child is made an orphan

module _ {A : Type 0} where
  mapped_same : (n : ℕ) (f g : ℕ → A → A) (xs : List A)
      → ((i : ℕ) (x : A) → slice_get xs i ≡ Some x → f (n + i) x ≡ g (n + i) x)
      → map_from n f xs ≡ map_from n g xs
  mapped_same n f g [] same = refl
  mapped_same n f g (x ∷ xs) same =
      let here : n + 0 ≡ n = omega arith in
      ap (λ y. y ∷ map_from (suc n) f xs)
      (ap (λ k. f k x) (sym here) ∙ same 0 x refl ∙ ap (λ k. g k x) here)
      ∙ ap (λ ys. g n x ∷ ys) (mapped_same (suc n) f g xs
      (λ i y is. let next : suc n + i ≡ n + suc i = omega arith in
      ap (λ k. f k y) next ∙ same (suc i) y is ∙ ap (λ k. g k y) (sym next)))

  mapped_set : (n : ℕ) (f g : ℕ → A → A) (xs : List A) (i : ℕ) (x y : A)
      → slice_get xs i ≡ Some x → y ≡ g (n + i) x
      → ((k : ℕ) (z : A) → k ≢ i → slice_get xs k ≡ Some z → f (n + k) z ≡ g (n + k) z)
      → set (map_from n f xs) i y ≡ map_from n g xs
  mapped_set n f g [] i x y is made same = cc
  mapped_set n f g (z ∷ xs) zero x y is made same =
      let here : n + 0 ≡ n = omega arith in
      let it : z ≡ x = cc in
      ap (λ v. v ∷ map_from (suc n) f xs) (made ∙ ap (λ k. g k x) here ∙ ap (g n) (sym it))
      ∙ ap (λ ys. g n z ∷ ys) (mapped_same (suc n) f g xs
      (λ k w at. let next : suc n + k ≡ n + suc k = omega arith in
      ap (λ m. f m w) next ∙ same (suc k) w (λ e. omega arith) at ∙ ap (λ m. g m w) (sym next)))
  mapped_set n f g (z ∷ xs) (suc i) x y is made same =
      let here : n + 0 ≡ n = omega arith in
      ap (λ v. v ∷ set (map_from (suc n) f xs) i y)
      (ap (λ k. f k z) (sym here) ∙ same 0 z (λ e. omega arith) refl ∙ ap (λ k. g k z) here)
      ∙ ap (λ ys. g n z ∷ ys) (mapped_set (suc n) f g xs i x y is
      (made ∙ ap (λ k. g k x) (omega arith))
      (λ k w apart at. let next : suc n + k ≡ n + suc k = omega arith in
      ap (λ m. f m w) next
      ∙ same (suc k) w (λ e. apart (omega arith)) at ∙ ap (λ m. g m w) (sym next)))

  mapped_one : (n : ℕ) (f : A → A) (xs : List A) → map_from n (λ k x. f x) xs ≡ map f xs
  mapped_one n f [] = refl
  mapped_one n f (x ∷ xs) = ap (λ ys. f x ∷ ys) (mapped_one (suc n) f xs)

  mapped_none : (n : ℕ) (xs : List A) → map_from n (λ k x. x) xs ≡ xs
  mapped_none n [] = refl
  mapped_none n (x ∷ xs) = ap (λ ys. x ∷ ys) (mapped_none (suc n) xs)

  mapped_length : (n : ℕ) (f : ℕ → A → A) (xs : List A) → length (map_from n f xs) ≡ length xs
  mapped_length n f [] = refl
  mapped_length n f (x ∷ xs) = ap (λ k. suc k) (mapped_length (suc n) f xs)

  mapped_at : (n : ℕ) (f : ℕ → A → A) (xs : List A) (i : ℕ) (x : A) → slice_get xs i ≡ Some x
      → slice_get (map_from n f xs) i ≡ Some (f (n + i) x)
  mapped_at n f [] i x is = cc
  mapped_at n f (y ∷ xs) zero x is =
      let it : y ≡ x = cc in
      ap (λ z. Some (f n z)) it ∙ ap (λ k. Some (f k x)) (omega arith)
  mapped_at n f (y ∷ xs) (suc i) x is =
      mapped_at (suc n) f xs i x is ∙ ap (λ k. Some (f k x)) (omega arith)

-- what a walk that has come to j has made of a record
abbrev orphan_before : ℕ → ℕ → ℕ → Record → Record
orphan_before p j n r = cond (nat_lt n j) (orphan_record p r) r

-- the records where the walk along the children of p has come to j
unfoldable pub orphaned_before : ℕ → List Record → ℕ → List Record
orphaned_before p R j = map_from 1 (orphan_before p j) R

before : (n j : ℕ) → n < j → nat_lt n j ≡ true
before n j l = grind (arith, nat_tests)

not_before : (n j : ℕ) → j ≤ n → nat_lt n j ≡ false
not_before n j l = grind (arith, nat_tests)

-- who is no child stays
no_orphan : (p : ℕ) (r : Record) → is_uncollected p r ≡ false → orphan_record p r ≡ r
no_orphan p r e = ap (λ b. let x : Record = record r { parent = cond b 0 r.parent } in x) e

an_orphan : (p : ℕ) (r : Record) → is_uncollected p r ≡ true
    → orphan_record p r ≡ record r { parent = 0 }
an_orphan p r e = ap (λ b. let x : Record = record r { parent = cond b 0 r.parent } in x) e

pub orphaned_length : (p : ℕ) (R : List Record) (j : ℕ)
    → length (orphaned_before p R j) ≡ length R
unfolding orphaned_before
orphaned_length p R j = mapped_length 1 (orphan_before p j) R

tested : (p : ℕ) (R : List Record) (i : ℕ) (x : Record) (b : Bool) → slice_get R i ≡ Some x
    → is_child_at R p (1 + i) ≡ b → is_uncollected p x ≡ b
tested p R i x b is e =
    let same : 1 + i ≡ suc i = omega arith in
    sym (ap (passes (is_uncollected p)) is) ∙ ap (is_child_at R p) (sym same) ∙ e

module _ (p : ℕ) (R : List Record) (few : length R ≤ 65535) where
  -- before the first child nobody changes
  pub orphaned_first : (j : ℕ) → IsNext (is_child_at R p) 0 j → R ≡ orphaned_before p R j
  unfolding orphaned_before
  orphaned_first j h = sym (mapped_same 1 (orphan_before p j) (λ k x. x) R
      (λ i x is. elim (cases_lt (1 + i) j) [
        | inl l ↦ ap (λ b. cond b (orphan_record p x) x) (before (1 + i) j l)
            ∙ no_orphan p x (tested p R i x false is (h.none (1 + i) (omega arith) l))
        | inr g ↦ ap (λ b. cond b (orphan_record p x) x) (not_before (1 + i) j g)
      ]) ∙ mapped_none 1 R)

  -- after the last child each has been made one
  pub orphaned_all : (j : ℕ) → 65536 ≤ j → orphaned_before p R j ≡ map (orphan_record p) R
  unfolding orphaned_before
  orphaned_all j top = mapped_same 1 (orphan_before p j) (λ k x. orphan_record p x) R
      (λ i x is. ap (λ b. cond b (orphan_record p x) x)
      (before (1 + i) j (omega (arith, slice_get_within R i x is))))
      ∙ mapped_one 1 (orphan_record p) R

  -- a child is made an orphan
  pub orphaned_next : (n j : ℕ) → is_child_at R p n ≡ true → IsNext (is_child_at R p) n j
      → (x : Record) → x ≡ get_or (orphaned_before p R n) (n - 1) x
      → set (orphaned_before p R n) (n - 1) (record x { parent = 0 }) ≡ orphaned_before p R j
  unfolding orphaned_before
  orphaned_next zero j t h x read = absurd (omega (arith, child_from R p 0 t))
  orphaned_next (suc i) j t h x read =
      let d : Record = x in
      let inside : i < length R = omega (arith, child_to R p (suc i) t) in
      let r : Record = get_or R i d in
      let is : slice_get R i ≡ Some r = slice_get-get_or R i d inside in
      let same : suc i - 1 ≡ i = omega arith in
      let step : 1 + i ≡ suc i = omega arith in
      let it : x ≡ r = now_is i x (read ∙ ap (λ k.
      get_or (map_from 1 (orphan_before p (suc i)) R) k x) same) r is in
      ap (λ k. set (map_from 1 (orphan_before p (suc i)) R) k (let y : Record =
      record x { parent = 0 } in y)) same
      ∙ mapped_set 1 (orphan_before p (suc i)) (orphan_before p j) R i r
      (record x { parent = 0 }) is
      (ap (λ (z : Record). let y : Record = record z { parent = 0 } in y) it
      ∙ sym (ap (λ b. cond b (orphan_record p r) r)
      (before (1 + i) j (omega (arith, h.above)))
      ∙ an_orphan p r (tested p R i r true is (ap (is_child_at R p) step ∙ t))))
      (λ k z apart at. others k z apart at)
    where
      now_is : (i : ℕ) (x : Record)
          → x ≡ get_or (map_from 1 (orphan_before p (suc i)) R) i x → (r : Record)
          → slice_get R i ≡ Some r → x ≡ r
      now_is i x read r is = read
          ∙ get_or_from_slice_get (map_from 1 (orphan_before p (suc i)) R) i
          (orphan_before p (suc i) (1 + i) r) x
          (mapped_at 1 (orphan_before p (suc i)) R i r is)
          ∙ ap (λ b. cond b (orphan_record p r) r) (not_before (1 + i) (suc i) (omega arith))

      others : (k : ℕ) (z : Record) → k ≢ i → slice_get R k ≡ Some z
          → orphan_before p (suc i) (1 + k) z ≡ orphan_before p j (1 + k) z
      others k z apart at = elim (cases_lt (1 + k) (suc i)) [
        | inl l ↦ ap (λ b. cond b (orphan_record p z) z)
            (before (1 + k) (suc i) l
            ∙ sym (before (1 + k) j (omega (arith, h.above))))
        | inr g ↦ ap (λ b. cond b (orphan_record p z) z) (not_before (1 + k) (suc i) g)
            ∙ elim (cases_lt (1 + k) j) [
              | inl l ↦ sym (ap (λ b. cond b (orphan_record p z) z) (before (1 + k) j l)
                  ∙ no_orphan p z (tested p R k z false at (h.none (1 + k) (omega arith) l)))
              | inr m ↦ sym (ap (λ b. cond b (orphan_record p z) z) (not_before (1 + k) j m))
            ]
      ]
