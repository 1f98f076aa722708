-- Marks tell whether a space has a frame twice.
use Rattle.std.proofs.Common.{◌≡◌, ℕ, suc, ◌<◌, ◌≤◌, ◌≢◌, Bool, true, false, not}
use Rattle.std.proofs.Common.{◌&&◌}
use Rattle.std.proofs.Common.{List, [], ◌∷◌, length, map, refl, sym, ap, subst, ◌∙◌, arith}
use Rattle.std.proofs.Common.{Option, Some, None, inl, inr, ◌⊎◌}
use Rattle.std.specs.Prelude.{All, AllPairs, ◌==◌, slice_index, slice_set, slice_index_or}
use Rattle.std.proofs.lemmas.Bool.{eqb-true, eqb-false, cases_lt, and_parts}
use Rattle.std.proofs.lemmas.List.{get_or-set_same, get_or-set_other, length-set, set_past}
use Rattle.std.proofs.lemmas.List.Elements.{All-nil, All-cons, All-head, All-tail}
use Rattle.std.proofs.lemmas.List.Kept.{AllPairs-cons}
use Rattle.dos_world.specs.World.{Holdings, all_holdings}
use Rattle.dos_world.specs.declared.Entry.{Entry}
use Rattle.group_text.specs.declared.records.ProcessRecord.{ProcessRecord}
use Rattle.group_text.specs.Records.{process_of_record as process_of, recorded_holdings as held_of}
use Rattle.lawful_groups.specs.Counts.{HasFrameBelow as HasFrame, HaveFrames}
use Rattle.lawful_groups.specs.Apart.{marked_space, are_apart, are_all_apart}

-- two entries have different frames
abbrev pub Differ : ℕ × Entry → ℕ × Entry → Type 0
Differ a b = a.1.frame ≢ b.1.frame

AllPairs-head : {A : Type 0} (R : A → A → Type 0) (x : A) (xs : List A) → AllPairs R (x ∷ xs)
    → All (R x) xs
AllPairs-head R x xs h k d lt = h 0 (suc k) d (omega arith) (omega arith)

AllPairs-tail : {A : Type 0} (R : A → A → Type 0) (x : A) (xs : List A) → AllPairs R (x ∷ xs)
    → AllPairs R xs
AllPairs-tail R x xs h i j d lt within = h (suc i) (suc j) d (omega arith) (omega arith)

-- the process of number p hasn't had an entry's frame
abbrev pub IsNew : List ℕ → ℕ → ℕ × Entry → Type 0
IsNew last p e = slice_index last e.1.frame ≢ p

set_new : (last : List ℕ) (p g : ℕ) (e : ℕ × Entry) → g < length last → g ≢ e.1.frame
    → IsNew last p e → IsNew (slice_set last g p) p e
set_new last p g e lt other new = rw (get_or-set_other last g e.1.frame p 0 (λ same. other (sym
    same))) new

set_old : (last : List ℕ) (p g : ℕ) (e : ℕ × Entry) → g < length last
    → IsNew (slice_set last g p) p e → g ≢ e.1.frame
set_old last p g e lt new same =
    new (ap (λ f. slice_index (slice_set last g p) f) (sym same) ∙ get_or-set_same last g p 0 lt)

set_old_new : (last : List ℕ) (p g : ℕ) (e : ℕ × Entry) → g < length last
    → IsNew (slice_set last g p) p e → IsNew last p e
set_old_new last p g e lt new old =
    new (get_or-set_other last g e.1.frame p 0 (λ same. set_old last p g e lt new (sym same)) ∙ old)

-- ---- one space

module _ (p : ℕ) where
  pub apart_yes : (last : List ℕ) (space : List (ℕ × Entry)) → All (HasFrame (length last)) space
      → are_apart last p space ≡ true → AllPairs Differ space × All (IsNew last p) space
  apart_yes last [] all h = (λ i j d lt within. absurd (omega arith), All-nil (IsNew last p))
  apart_yes last (e ∷ space) all h =
      let g : ℕ = e.1.frame in
      let a = and_parts (not (slice_index last g == p)) (are_apart (slice_set last g p) p space) h
      in
      let lt : g < length last = All-head (HasFrame (length last)) e space all in
      let rest = apart_yes (slice_set last g p) space (rw (length-set last g p) (All-tail (HasFrame
      (length last)) e space all)) a.1 in
      let new : IsNew last p e = λ same. differs (slice_index last g) p a.0 same in (
        AllPairs-cons Differ e space (λ k d k_lt.
            set_old last p g (slice_index_or space k d) lt (rest.1 k d k_lt)) rest.0,
        All-cons (IsNew last p) e space new (λ k d k_lt.
            set_old_new last p g (slice_index_or space k d) lt (rest.1 k d k_lt)),
      )
    where
      differs : (a b : ℕ) → not (a == b) ≡ true → a ≢ b
      differs a b h same = absurd (grind (arith, h, same))

  pub apart_no : (last : List ℕ) (space : List (ℕ × Entry)) → All (HasFrame (length last)) space
      → AllPairs Differ space → All (IsNew last p) space → are_apart last p space ≡ true
  apart_no last [] all pairs new = refl
  apart_no last (e ∷ space) all pairs new =
      let g : ℕ = e.1.frame in
      let lt : g < length last = All-head (HasFrame (length last)) e space all in
      let here : not (slice_index last g == p) ≡ true = other (slice_index last g) p (All-head
      (IsNew last p) e space new) in
      let rest = apart_no (slice_set last g p) space (rw (length-set last g p) (All-tail (HasFrame
      (length last)) e space all))
      (AllPairs-tail Differ e space pairs) (λ k d k_lt.
      set_new last p g (slice_index_or space k d) lt (AllPairs-head Differ e space pairs k d k_lt)
      (All-tail (IsNew last p) e space new k d k_lt)) in
      rw (here, rest) refl
    where
      other : (a b : ℕ) → a ≢ b → not (a == b) ≡ true
      other a b h = grind (arith, h)

  -- a frame is the process's afterwards at most, or as it was
  pub marked_at : (last : List ℕ) (space : List (ℕ × Entry)) (f high : ℕ)
      → slice_index last f ≤ high → p ≤ high → slice_index (marked_space last p space) f ≤ high
  marked_at last [] f high le low = le
  marked_at last (e ∷ space) f high le low =
      marked_at (slice_set last e.1.frame p) space f high (go (cases_lt e.1.frame (length last))
      (e.1.frame == f) refl) low
    where
      go : (e.1.frame < length last) ⊎ (length last ≤ e.1.frame) → (b : Bool) → (e.1.frame == f) ≡ b
          → slice_index (slice_set last e.1.frame p) f ≤ high
      go (inl lt) true s = rw (sym (eqb-true e.1.frame f s), get_or-set_same last e.1.frame p 0 lt)
          low
      go c false s = rw (get_or-set_other last e.1.frame f p 0 (λ same. eqb-false e.1.frame f s
          (sym same))) le
      go (inr past) true s = rw (set_past last e.1.frame p past) le

  pub marked_length : (last : List ℕ) (space : List (ℕ × Entry))
      → length (marked_space last p space) ≡ length last
  marked_length last [] = refl
  marked_length last (e ∷ space) =
      marked_length (slice_set last e.1.frame p) space ∙ length-set last e.1.frame p

-- ---- all spaces

abbrev pub Apart : Holdings → Type 0
Apart h = AllPairs Differ h.space

-- no frame was had by a process from number p on
abbrev pub AreBelow : List ℕ → ℕ → Type 0
AreBelow last p = (f : ℕ) → slice_index last f < p

all_new : (last : List ℕ) (p : ℕ) (space : List (ℕ × Entry)) → AreBelow last p
    → All (IsNew last p) space
all_new last p space below k d lt same =
    let e : ℕ × Entry = slice_index_or space k d in absurd (omega (arith, below e.1.frame, same))

marked_below : (last : List ℕ) (p : ℕ) (space : List (ℕ × Entry)) → AreBelow last p
    → AreBelow (marked_space last p space) (suc p)
marked_below last p space below f =
    let b = below f in
    let m = marked_at p last space f p (omega (arith, b)) (omega arith) in omega (arith, m)

further : (last : List ℕ) (p : ℕ) → AreBelow last p → AreBelow last (suc p)
further last p below f = omega (arith, below f)

pub all_apart_yes : (last : List ℕ) (p : ℕ) (rs : List ProcessRecord)
    → All (HaveFrames (length last)) rs → AreBelow last p → are_all_apart last p rs ≡ true
    → All Apart (all_holdings (map process_of rs))
all_apart_yes last p [] all below h = All-nil Apart
all_apart_yes last p (r ∷ rs) all below h =
    go (λ more q len low t. all_apart_yes more q rs
    (rw len (All-tail (HaveFrames (length last)) r rs all)) low t) r.status refl
  where
    Test : Option ℕ → Bool
    Test s = elim s as (λ _. Bool) [
      | None ↦ are_apart last p r.pages.items
          && are_all_apart (marked_space last p r.pages.items) (suc p) rs
      | Some status ↦ are_all_apart last (suc p) rs
    ]

    go : ((more : List ℕ) (q : ℕ) → length more ≡ length last → AreBelow more q
        → are_all_apart more q rs ≡ true → All Apart (all_holdings (map process_of rs)))
        → (s : Option ℕ) → r.status ≡ s → All Apart (all_holdings (map process_of (r ∷ rs)))
    go rest None e =
        let t : Test None ≡ true = subst (λ s. Test s ≡ true) e h in
        let a = and_parts (are_apart last p r.pages.items)
        (are_all_apart (marked_space last p r.pages.items) (suc p) rs) t in
        let here = apart_yes p last r.pages.items (All-head (HaveFrames (length last)) r rs all e)
        a.0 in
        rw e (All-cons Apart (held_of r) (all_holdings (map process_of rs)) here.0
        (rest (marked_space last p r.pages.items) (suc p) (marked_length p last r.pages.items)
        (marked_below last p r.pages.items below) a.1))
    go rest (Some x) e =
        let t : Test (Some x) ≡ true = subst (λ s. Test s ≡ true) e h in
        rw e (rest last (suc p) refl (further last p below) t)

pub all_apart_no : (last : List ℕ) (p : ℕ) (rs : List ProcessRecord)
    → All (HaveFrames (length last)) rs → AreBelow last p
    → All Apart (all_holdings (map process_of rs)) → are_all_apart last p rs ≡ true
all_apart_no last p [] all below h = refl
all_apart_no last p (r ∷ rs) all below h =
    go (λ more q len low t. all_apart_no more q rs
    (rw len (All-tail (HaveFrames (length last)) r rs all)) low t) r.status refl
  where
    Held : Option ℕ → List Holdings
    Held s = elim s as (λ _. List Holdings) [
      | None ↦ held_of r ∷ all_holdings (map process_of rs)
      | Some status ↦ all_holdings (map process_of rs)
    ]

    held : (s : Option ℕ) → r.status ≡ s → all_holdings (map process_of (r ∷ rs)) ≡ Held s
    held None e = rw e refl
    held (Some x) e = rw e refl

    go : ((more : List ℕ) (q : ℕ) → length more ≡ length last → AreBelow more q
        → All Apart (all_holdings (map process_of rs)) → are_all_apart more q rs ≡ true)
        → (s : Option ℕ) → r.status ≡ s → are_all_apart last p (r ∷ rs) ≡ true
    go more None e =
        let t : All Apart (held_of r ∷ all_holdings (map process_of rs)) =
        subst (All Apart) (held None e) h in
        let hs : List Holdings = all_holdings (map process_of rs) in
        let here = apart_no p last r.pages.items (All-head (HaveFrames (length last)) r rs all e)
        (All-head Apart (held_of r) hs t)
        (all_new last p r.pages.items below) in
        let rest = more (marked_space last p r.pages.items) (suc p)
        (marked_length p last r.pages.items) (marked_below last p r.pages.items below)
        (All-tail Apart (held_of r) hs t) in
        rw (e, here, rest) refl
    go more (Some x) e =
        let t : All Apart (all_holdings (map process_of rs)) =
        subst (All Apart) (held (Some x) e) h in
        rw e (more last (suc p) refl (further last p below) t)
