-- One step can bring any slot of a seat to the front of its list.
use Rattle.std.proofs.Common.{◌≡◌, ◌≢◌, ℕ, ◌<◌, List, [], ◌∷◌, ◌++◌, length, set, refl, sym, ap}
use Rattle.std.proofs.Common.{◌∙◌, subst, arith, length-set}
use mathlib.Core.Option.{some, none}
use mathlib.Core.Option as maybe
use lib.ListN.{get_elem?}
use Rattle.atomic_table.specs.Table.{Act, keeps, takes, gives, chain, Valid, carried_after}
use Rattle.atomic_table.specs.Table.{homes_after, put_back, rest}
use Rattle.atomic_table.proofs.Lists.{set_here, set_else}

module _ {S : Type 0} where
  -- none of these slots is k
  abbrev pub Apart : ℕ → List (ℕ × S) → Type 0
  Apart k [] = Unit {0}
  Apart k (x ∷ xs) = (k ≢ x.0) × Apart k xs

  abbrev pub Distinct : List (ℕ × S) → Type 0
  Distinct [] = Unit {0}
  Distinct (x ∷ xs) = Apart x.0 xs × Distinct xs

  abbrev pub Within : ℕ → List (ℕ × S) → Type 0
  Within n [] = Unit {0}
  Within n (x ∷ xs) = (x.0 < n) × Within n xs

  -- the slots before the one that is wanted go home, it goes home too, and they come back under it
  abbrev pub front : List (ℕ × S) → ℕ → S → Act S
  front [] t z = keeps
  front (x ∷ pre) t z = chain gives
      (chain (front pre t z) (chain gives (chain (takes x.0 x.1) (takes t z))))

  pub carries : (pre post : List (ℕ × S)) (t : ℕ) (z : S)
      → carried_after (pre ++ (t, z) ∷ post) (front pre t z) ≡ (t, z) ∷ (pre ++ post)
  carries [] post t z = refl
  carries (x ∷ pre) post t z = ap (λ c. (t, z) ∷ (x.0, x.1) ∷ rest c) (carries pre post t z)

  abbrev after : List (maybe.Option S) → List (ℕ × S) → List (ℕ × S) → ℕ → S → List (maybe.Option S)
  after hs pre post t z = homes_after hs (pre ++ (t, z) ∷ post) (front pre t z)

  -- the other slots are as they were
  pub others : (hs : List (maybe.Option S)) (pre post : List (ℕ × S)) (t : ℕ) (z : S) (j : ℕ)
      → j ≢ t → Apart j pre → get_elem? (after hs pre post t z) j ≡ get_elem? hs j
  others hs [] post t z j n a = refl
  others hs (x ∷ pre) post t z j n a =
      let hf = after (set hs x.0 (some x.1)) pre post t z in
      set_else (set (put_back hf (carried_after (pre ++ (t, z) ∷ post) (front pre t z))) x.0 none) t
      j none n
      ∙ set_else (put_back hf (carried_after (pre ++ (t, z) ∷ post) (front pre t z))) x.0 j none a.0
      ∙ ap (λ c. get_elem? (put_back hf c) j) (carries pre post t z)
      ∙ set_else hf t j (some z) n
      ∙ others (set hs x.0 (some x.1)) pre post t z j n a.1
      ∙ set_else hs x.0 j (some x.1) a.0

  pub long : (hs : List (maybe.Option S)) (pre post : List (ℕ × S)) (t : ℕ) (z : S)
      → length (after hs pre post t z) ≡ length hs
  long hs [] post t z = refl
  long hs (x ∷ pre) post t z =
      let hf = after (set hs x.0 (some x.1)) pre post t z in
      let back = put_back hf (carried_after (pre ++ (t, z) ∷ post) (front pre t z)) in
      length-set (set back x.0 none) t none ∙ length-set back x.0 none
      ∙ ap (λ c. length (put_back hf c)) (carries pre post t z) ∙ length-set hf t (some z)
      ∙ long (set hs x.0 (some x.1)) pre post t z ∙ length-set hs x.0 (some x.1)

  pub valid : (hs : List (maybe.Option S)) (pre post : List (ℕ × S)) (t : ℕ) (z : S) → t < length hs
      → Within (length hs) pre → Apart t pre → Distinct pre
      → Valid hs (pre ++ (t, z) ∷ post) (front pre t z)
  valid hs [] post t z lt w a d = tt
  valid hs (x ∷ pre) post t z lt w a d =
      let hs' = set hs x.0 (some x.1) in
      let same = length-set hs x.0 (some x.1) in
      let hf = after hs' pre post t z in
      let size = long hs' pre post t z in
      let back = put_back hf (carried_after (pre ++ (t, z) ∷ post) (front pre t z)) in
      let turn : back ≡ set hf t (some z) = ap (put_back hf) (carries pre post t z) in (
        tt,
        (
          valid hs' pre post t z (omega arith) (subst (λ n. Within n pre) (sym same) w.1) a.1 d.1,
          (
            tt,
            (
              ap (λ h. get_elem? h x.0) turn ∙ set_else hf t x.0 (some z) (λ e. a.0 (sym e))
                  ∙ others hs' pre post t z x.0 (λ e. a.0 (sym e)) d.0
                  ∙ set_here hs x.0 (some x.1) w.0,
              set_else back x.0 t none a.0 ∙ ap (λ h. get_elem? h t) turn
                  ∙ set_here hf t (some z) (omega arith),
            ),
          ),
        ),
      )
