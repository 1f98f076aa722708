-- The pages that parts touch, in rising order, and the bytes and rights of each.
use Rattle.std.proofs.Common.{ℕ, zero, suc, ◌+◌, ◌-◌, ◌*◌, ◌/◌, ◌<◌, ◌≤◌, ◌≡◌, ◌≢◌, ◌⊎◌, inl, inr}
use Rattle.std.proofs.Common.{refl, sym, ap, ◌∙◌, subst, Bool, cond, true, false, ◌&&◌, ◌||◌, List}
use Rattle.std.proofs.Common.{[], ◌∷◌, ◌++◌, length, take, drop, get_or, set, Option, Some, None}
use Rattle.std.proofs.Common.{min, max, arith}
use Rattle.std.specs.Prelude.{All, AllPairs, IfSome, find, filter, flat_map, nat_lt, nat_le, ◌==◌}
use Rattle.std.specs.List.{list_any}
use Rattle.std.specs.Option.{option_or}
use Rattle.std.proofs.lemmas.Bool.{ltb-true, ltb-false, lt-ltb, le-ltb, leb-true, leb-false, le-leb}
use Rattle.std.proofs.lemmas.Bool.{lt-leb, eqb-true, eqb-false, cases_lt, cond-true, cond-false}
use Rattle.std.proofs.lemmas.Bool.{and_from, and_parts, and_left, and_right}
use Rattle.std.proofs.lemmas.List.{append-nil, take_all, take_more, length-take, length-drop}
use Rattle.std.proofs.lemmas.List.{length-set, get_or-set_other, get_or-set_same, get_or-take}
use Rattle.std.proofs.lemmas.List.{get_or-drop, get_or_past, get_or_default, get_or-replicate}
use Rattle.std.proofs.lemmas.List.{get_or-map, length-map, ext_get_or}
use Rattle.std.proofs.lemmas.List.Elements.{All-head, All-weaker, filter_passes}
use Rattle.std.proofs.lemmas.List.Sums.{length-filter, count_by-le-length}
use Rattle.std.proofs.lemmas.List.{length_push}
use Rattle.std.proofs.lemmas.List.Concat.{flat_map-append}
use Rattle.std.proofs.lemmas.List.Folds.{list_any_more, find-append}
use Rattle.dos_world.specs.Numbered.{run_of}
use Rattle.dos_world.specs.Bytes.{written}
use Rattle.elf_image.specs.declared.part.Part.{Part}
use Rattle.elf_image.specs.Image.{Image, IsSoundImage, IsApart, size_of}
use Rattle.flat_machine.specs.Opening.{pages_touched, with_number, rising, part_pages, touches}
use Rattle.flat_machine.specs.Opening.{covers, part_byte, byte_at, page_bytes}
use Rattle.group_open.specs.Pages.{lower_of, least_from, laid_over}
use Rattle.group_open.proofs.Runs.{RisesWithin, within_rise, any_in_run, none_in_run, length_run}
use Rattle.group_open.proofs.Runs.{at_run}
use Rattle.page_store.specs.Store.{whole}
use Rattle.page_store.proofs.Pages.{length-whole}
use Rattle.dos_world.specs.Kernel.{zero_page}
use Rattle.group_open.proofs.OpeningParts.{pages_rise}

-- ---- the least number that isn't below another

lower_assoc : (a b c : Option ℕ) → lower_of (lower_of a b) c ≡ lower_of a (lower_of b c)
lower_assoc None b c = refl
lower_assoc (Some a) None c = refl
lower_assoc (Some a) (Some b) None = refl
lower_assoc (Some a) (Some b) (Some c) = ap (λ n. Some n) (omega arith)

least-append : (from : ℕ) (xs ys : List ℕ)
    → least_from from (xs ++ ys) ≡ lower_of (least_from from xs) (least_from from ys)
least-append from [] ys = refl
least-append from (x ∷ xs) ys = go (least-append from xs ys) (nat_le from x)
  where
    go : least_from from (xs ++ ys) ≡ lower_of (least_from from xs) (least_from from ys)
        → (t : Bool)
        → cond t (lower_of (Some x) (least_from from (xs ++ ys))) (least_from from (xs ++ ys))
        ≡ lower_of (cond t (lower_of (Some x) (least_from from xs)) (least_from from xs))
        (least_from from ys)
    go rest true = ap (lower_of (Some x)) rest
        ∙ sym (lower_assoc (Some x) (least_from from xs) (least_from from ys))
    go rest false = rest

-- a number that isn't below from, before others
least-here : (from x : ℕ) (xs : List ℕ) → from ≤ x
    → least_from from (x ∷ xs) ≡ lower_of (Some x) (least_from from xs)
least-here from x xs le =
    cond-true (nat_le from x) (lower_of (Some x) (least_from from xs)) (least_from from xs)
    (le-leb from x le)

least-past : (from x : ℕ) (xs : List ℕ) → x < from → least_from from (x ∷ xs) ≡ least_from from xs
least-past from x xs lt =
    cond-false (nat_le from x) (lower_of (Some x) (least_from from xs)) (least_from from xs)
    (lt-leb from x lt)

-- in a run it is the run's first, or the other number
least-run_here : (from a n : ℕ) → from ≤ a → least_from from (run_of a (suc n)) ≡ Some a
least-run_here from a zero le = least-here from a [] le
least-run_here from a (suc n) le =
    least-here from a (run_of (suc a) (suc n)) le
    ∙ ap (lower_of (Some a)) (least-run_here from (suc a) n (omega arith))
    ∙ ap (λ k. Some k) (omega arith)

pub least-run : (from a n m : ℕ) → m ≡ max a from → m < a + n
    → least_from from (run_of a n) ≡ Some m
least-run from a zero m e lt = absurd (omega arith)
least-run from a (suc n) m e lt =
    go (λ below. least-run from (suc a) n m (omega arith) (omega arith)) (cases_lt a from)
  where
    go : (a < from → least_from from (run_of (suc a) n) ≡ Some m) → (a < from) ⊎ (from ≤ a)
        → least_from from (run_of a (suc n)) ≡ Some m
    go rest (inl below) = least-past from a (run_of (suc a) n) below ∙ rest below
    go rest (inr at) = least-run_here from a n at ∙ ap (λ k. Some k) (omega arith)

pub least-run_past : (from a n : ℕ) → a + n ≤ from → least_from from (run_of a n) ≡ None
least-run_past from a zero le = refl
least-run_past from a (suc n) le = least-past from a (run_of (suc a) n) (omega arith)
    ∙ least-run_past from (suc a) n (omega arith)

-- ---- in rising order it is the first that passes

module _ (from n y : ℕ) where
  -- the new number stands first
  new_first : (rest : Option ℕ) (s t : Bool) → nat_le from n ≡ s → nat_le from y ≡ t → n < y
      → cond s (Some n) (cond t (Some y) rest) ≡ cond s (lower_of (Some n) (cond t (Some y) rest))
      (cond t (Some y) rest)
  new_first rest true true e f lt = ap (λ k. Some k) (omega arith)
  new_first rest true false e f lt = absurd (omega (arith, leb-true from n e, leb-false from y f))
  new_first rest false t e f lt = refl

  -- it is there already
  new_there : (rest : Option ℕ) (s t : Bool) → nat_le from n ≡ s → nat_le from y ≡ t → n ≡ y
      → cond t (Some y) rest ≡ cond s (lower_of (Some n) (cond t (Some y) rest))
      (cond t (Some y) rest)
  new_there rest true true e f same = ap (λ k. Some k) (omega arith)
  new_there rest true false e f same = absurd (omega (arith, leb-true from n e, leb-false from y f))
  new_there rest false t e f same = refl

  -- it comes later
  new_later : (o rest : Option ℕ) (s t : Bool) → nat_le from n ≡ s → nat_le from y ≡ t → y < n
      → o ≡ cond s (lower_of (Some n) rest) rest
      → cond t (Some y) o ≡ cond s (lower_of (Some n) (cond t (Some y) rest)) (cond t (Some y) rest)
  new_later o rest true true e f lt later = ap (λ k. Some k) (omega arith)
  new_later o rest false true e f lt later =
      absurd (omega (arith, leb-false from n e, leb-true from y f))
  new_later o rest s false e f lt later = later

-- in these numbers the first that passes is the lower of the new one and that of the others
abbrev FindsLower : ℕ → ℕ → List ℕ → List ℕ → Type 0
FindsLower from n ys xs =
    find (nat_le from) xs ≡ cond (nat_le from n) (lower_of (Some n) (find (nat_le from) ys))
    (find (nat_le from) ys)

find-with_number : (from n : ℕ) (ys : List ℕ) → FindsLower from n ys (with_number n ys)
find-with_number from n [] = refl
find-with_number from n (y ∷ ys) = by_test (find-with_number from n ys) (nat_lt n y) refl
  where
    by_equal : FindsLower from n ys (with_number n ys) → y ≤ n → (t : Bool) → (n == y) ≡ t
        → FindsLower from n (y ∷ ys) (cond t (y ∷ ys) (y ∷ with_number n ys))
    by_equal later le true e =
        new_there from n y (find (nat_le from) ys) (nat_le from n) (nat_le from y) refl refl
        (eqb-true n y e)
    by_equal later le false e =
        let other : n ≡ y → ⊥ = eqb-false n y e in
        new_later from n y (find (nat_le from) (with_number n ys)) (find (nat_le from) ys)
        (nat_le from n) (nat_le from y) refl refl (omega (arith, other)) later

    by_test : FindsLower from n ys (with_number n ys) → (t : Bool) → nat_lt n y ≡ t
        → FindsLower from n (y ∷ ys)
        (cond t (n ∷ y ∷ ys) (cond (n == y) (y ∷ ys) (y ∷ with_number n ys)))
    by_test later true e =
        new_first from n y (find (nat_le from) ys) (nat_le from n) (nat_le from y) refl refl
        (ltb-true n y e)
    by_test later false e = by_equal later (ltb-false n y e) (n == y) refl

pub least-rising : (from : ℕ) (ns : List ℕ) → find (nat_le from) (rising ns) ≡ least_from from ns
least-rising from [] = refl
least-rising from (n ∷ ns) = find-with_number from n (rising ns)
    ∙ ap (λ o. cond (nat_le from n) (lower_of (Some n) o) o) (least-rising from ns)

-- a part more
pub least-parts_more : (from : ℕ) (parts : List Part) (i : ℕ) (part : Part) → i < length parts
    → part ≡ get_or parts i part
    → least_from from (flat_map pages_touched (take (i + 1) parts))
    ≡ lower_of (least_from from (flat_map pages_touched (take i parts)))
    (least_from from (pages_touched part))
least-parts_more from parts i part lt e =
    ap (λ ps. least_from from (flat_map pages_touched ps))
    (take_more parts i part lt ∙ ap (λ p. take i parts ++ p ∷ []) (sym e))
    ∙ ap (least_from from) (flat_map-append pages_touched (take i parts) (part ∷ []))
    ∙ least-append from (flat_map pages_touched (take i parts)) (flat_map pages_touched (part ∷ []))
    ∙ ap (λ ns. lower_of (least_from from (flat_map pages_touched (take i parts)))
    (least_from from ns)) (append-nil (pages_touched part))

-- ---- a page that comes next

-- it isn't below the number, and within the bounds
pub found_within : (from a b p : ℕ) (xs : List ℕ) → RisesWithin a b xs
    → find (nat_le from) xs ≡ Some p → (from ≤ p) × (p < b)
found_within from a b p [] h e = absurd cc
found_within from a b p (x ∷ xs) h e =
    go (found_within from (suc x) b p xs h.1) (nat_le from x) refl e
  where
    go : (find (nat_le from) xs ≡ Some p → (from ≤ p) × (p < b)) → (t : Bool) → nat_le from x ≡ t
        → cond t (Some x) (find (nat_le from) xs) ≡ Some p → (from ≤ p) × (p < b)
    go rest true le is =
        let same : x ≡ p = cc in
        let first : (a ≤ x) × (x < b) =
        All-head (λ n. (a ≤ n) × (n < b)) x xs (within_rise a b (x ∷ xs) h) in
        (omega (arith, leb-true from x le), omega (arith, first.1))
    go rest false le is = rest is

-- the pages below a number
abbrev pub pages_below : Image → ℕ → List ℕ
pages_below image from = filter (λ p. nat_lt p from) (part_pages image)

none_below : (from a b : ℕ) (xs : List ℕ) → from ≤ a → RisesWithin a b xs
    → filter (λ p. nat_lt p from) xs ≡ []
none_below from a b [] le h = refl
none_below from a b (x ∷ xs) le h =
    let first : a ≤ x = h.0 in
    ap (λ t. cond t (x ∷ filter (λ p. nat_lt p from) xs) (filter (λ p. nat_lt p from) xs))
    (le-ltb x from (omega arith)) ∙ none_below from (suc x) b xs (omega arith) h.1

kept_below : (c x : ℕ) (xs : List ℕ) → x < c
    → filter (λ q. nat_lt q c) (x ∷ xs) ≡ x ∷ filter (λ q. nat_lt q c) xs
kept_below c x xs lt = cond-true (nat_lt x c) (x ∷ filter (λ q. nat_lt q c) xs)
    (filter (λ q. nat_lt q c) xs) (lt-ltb x c lt)

below_more : (from a b p : ℕ) (xs : List ℕ) → RisesWithin a b xs → find (nat_le from) xs ≡ Some p
    → filter (λ q. nat_lt q (p + 1)) xs ≡ filter (λ q. nat_lt q from) xs ++ p ∷ []
below_more from a b p [] h e = absurd cc
below_more from a b p (x ∷ xs) h e = go (below_more from (suc x) b p xs h.1) (nat_le from x) refl e
  where
    go : (find (nat_le from) xs ≡ Some p
        → filter (λ q. nat_lt q (p + 1)) xs ≡ filter (λ q. nat_lt q from) xs ++ p ∷ [])
        → (t : Bool) → nat_le from x ≡ t → cond t (Some x) (find (nat_le from) xs) ≡ Some p
        → filter (λ q. nat_lt q (p + 1)) (x ∷ xs) ≡ filter (λ q. nat_lt q from) (x ∷ xs) ++ p ∷ []
    go rest true le is =
        let same : x ≡ p = cc in
        kept_below (p + 1) x xs (omega arith)
        ∙ ap (λ ys. x ∷ ys) (none_below (p + 1) (suc x) b xs (omega arith) h.1)
        ∙ ap (λ n. n ∷ []) same
        ∙ sym (ap (λ ys. ys ++ p ∷ [])
        (none_below from x b (x ∷ xs) (leb-true from x le) (omega arith, h.1)))
    go rest false le is =
        let before : x < from = leb-false from x le in
        let found = found_within from (suc x) b p xs h.1 is in
        kept_below (p + 1) x xs (omega (arith, found.0)) ∙ ap (λ ys. x ∷ ys) (rest is)
        ∙ sym (ap (λ ys. ys ++ p ∷ []) (kept_below from x xs before))

below_all : (from a b : ℕ) (xs : List ℕ) → RisesWithin a b xs → find (nat_le from) xs ≡ None
    → filter (λ q. nat_lt q from) xs ≡ xs
below_all from a b [] h e = refl
below_all from a b (x ∷ xs) h e = go (below_all from (suc x) b xs h.1) (nat_le from x) refl e
  where
    go : (find (nat_le from) xs ≡ None → filter (λ q. nat_lt q from) xs ≡ xs) → (t : Bool)
        → nat_le from x ≡ t → cond t (Some x) (find (nat_le from) xs) ≡ None
        → filter (λ q. nat_lt q from) (x ∷ xs) ≡ x ∷ xs
    go rest true le is = absurd cc
    go rest false le is = kept_below from x xs (leb-false from x le) ∙ ap (λ ys. x ∷ ys) (rest is)

-- ---- the pages of an image

pub next_is : (image : Image) (from : ℕ) (o : Option ℕ) (parts : List Part) (i : ℕ)
    → parts ≡ image.parts → length parts ≤ i
    → o ≡ least_from from (flat_map pages_touched (take i parts))
    → o ≡ find (nat_le from) (part_pages image)
next_is image from o parts i same all e =
    e ∙ ap (λ ps. least_from from (flat_map pages_touched ps)) (take_all i parts all ∙ same)
    ∙ sym (least-rising from (flat_map pages_touched image.parts))

pub next_within : (image : Image) (from : ℕ) (o : Option ℕ) → IsSoundImage image
    → o ≡ find (nat_le from) (part_pages image)
    → IfSome o (λ page. (from ≤ page) × (page < 0xEFFF0))
next_within image from None h e = tt
next_within image from (Some p) h e =
    found_within from 1 0xEFFF0 p (part_pages image) (pages_rise image h) (sym e)

pub pages_more : (image : Image) (from p : ℕ) → IsSoundImage image
    → find (nat_le from) (part_pages image) ≡ Some p
    → pages_below image (p + 1) ≡ pages_below image from ++ p ∷ []
pages_more image from p h e = below_more from 1 0xEFFF0 p (part_pages image) (pages_rise image h) e

pub pages_all : (image : Image) (from : ℕ) → IsSoundImage image
    → find (nat_le from) (part_pages image) ≡ None → pages_below image from ≡ part_pages image
pages_all image from h e = below_all from 1 0xEFFF0 (part_pages image) (pages_rise image h) e

-- a page that comes next is one more
pub fewer_below : (image : Image) (from p : ℕ) → IsSoundImage image
    → find (nat_le from) (part_pages image) ≡ Some p
    → length (pages_below image from) + 1 ≤ length (part_pages image)
fewer_below image from p h e =
    omega (
      arith,
      ap length (pages_more image from p h e),
      length_push (pages_below image from) p,
      length-filter (λ q. nat_lt q (p + 1)) (part_pages image),
      count_by-le-length (λ q. nat_lt q (p + 1)) (part_pages image),
    )

pub all_below : (image : Image) (from bound : ℕ) → from ≤ bound
    → All (λ page. page < bound) (pages_below image from)
all_below image from bound le =
    All-weaker (λ p. nat_lt p from ≡ true) (λ page. page < bound)
    (λ p e. omega (arith, ltb-true p from e)) (pages_below image from)
    (filter_passes (λ p. nat_lt p from) (part_pages image))

pub pages_none : (image : Image) → length (pages_below image 0) ≡ 0
pages_none image = go (part_pages image)
  where
    go : (xs : List ℕ) → length (filter (λ p. nat_lt p 0) xs) ≡ 0
    go [] = refl
    go (x ∷ xs) = ap (λ t.
        length (cond t (x ∷ filter (λ p. nat_lt p 0) xs) (filter (λ p. nat_lt p 0) xs)))
        (le-ltb x 0 (omega arith)) ∙ go xs

-- ---- whether a part touches a page

pub touches_below : (part : Part) (page first : ℕ) → first ≡ part.address / 4096 → page < first
    → nat_le first page ≡ touches page part
touches_below part page first e lt =
    lt-leb first page lt ∙ sym (none_in_run page _ _ (inl (omega arith)))

pub touches_from : (part : Part) (page first last : ℕ) → first ≡ part.address / 4096
    → last ≡ (part.address + size_of part - 1) / 4096 → first ≤ page
    → nat_le page last ≡ touches page part
touches_from part page first last e f from = go (cases_lt last page)
  where
    go : (last < page) ⊎ (page ≤ last) → nat_le page last ≡ touches page part
    go (inl past) = lt-leb page last past ∙ sym (none_in_run page _ _ (inr (omega arith)))
    go (inr within) = le-leb page last within
        ∙ sym (any_in_run page _ _ (omega arith) (omega arith))

-- ---- the rights of a page

any_of_filter : {A : Type 0} (right test : A → Bool) (xs : List A)
    → list_any right (filter test xs) ≡ list_any (λ x. test x && right x) xs
any_of_filter right test [] = refl
any_of_filter right test (x ∷ xs) = go (any_of_filter right test xs) (test x)
  where
    go : list_any right (filter test xs) ≡ list_any (λ x. test x && right x) xs → (t : Bool)
        → list_any right (cond t (x ∷ filter test xs) (filter test xs))
        ≡ (t && right x || list_any (λ x. test x && right x) xs)
    go rest true = ap (λ t. right x || t) rest
    go rest false = rest

-- a right of the parts that touch a page, and of one part more
pub right_more : (right : Part → Bool) (page : ℕ) (parts : List Part) (i : ℕ) (part : Part)
    → i < length parts → part ≡ get_or parts i part
    → list_any right (filter (touches page) (take (i + 1) parts))
    ≡ (list_any right (filter (touches page) (take i parts)) || (touches page part && right part))
right_more right page parts i part lt e =
    any_of_filter right (touches page) (take (i + 1) parts)
    ∙ list_any_more (λ p. touches page p && right p) parts i part lt
    ∙ ap (λ p. list_any (λ p. touches page p && right p) (take i parts) ||
    (touches page p && right p)) (sym e)
    ∙ ap (λ t. t || (touches page part && right part))
    (sym (any_of_filter right (touches page) (take i parts)))

-- ---- bytes laid over a page

written_out : (xs : List ℕ) (o : ℕ) (new : List ℕ) (k : ℕ) → (k < o) ⊎ (o + length new ≤ k)
    → get_or (written xs o new) k 0 ≡ get_or xs k 0
written_out xs o [] k out = refl
written_out xs o (b ∷ new) k out = written_out (set xs o b) (suc o) new k (further out)
    ∙ get_or-set_other xs o k b 0 (other out)
  where
    further : (k < o) ⊎ (o + suc (length new) ≤ k) → (k < suc o) ⊎ (suc o + length new ≤ k)
    further (inl below) = inl (omega arith)
    further (inr past) = inr (omega arith)

    other : (k < o) ⊎ (o + suc (length new) ≤ k) → k ≢ o
    other (inl below) e = omega arith
    other (inr past) e = omega arith

written_in : (xs : List ℕ) (o : ℕ) (new : List ℕ) (k : ℕ) → o ≤ k → k < o + length new
    → k < length xs → get_or (written xs o new) k 0 ≡ get_or new (k - o) 0
written_in xs o [] k from to lt = absurd (omega arith)
written_in xs o (b ∷ new) k from to lt =
    go (λ next. written_in (set xs o b) (suc o) new k next (omega arith)
    (omega (arith, length-set xs o b))) (cases_lt o k)
  where
    go : (suc o ≤ k → get_or (written (set xs o b) (suc o) new) k 0 ≡ get_or new (k - suc o) 0)
        → (o < k) ⊎ (k ≤ o)
        → get_or (written (set xs o b) (suc o) new) k 0 ≡ get_or (b ∷ new) (k - o) 0
    go rest (inl later) = let next : k - o ≡ suc (k - suc o) = omega arith in
        rest later ∙ ap (λ i. get_or (b ∷ new) i 0) (sym next)
    go rest (inr here) =
        let same : k ≡ o = omega arith in
        let first : k - o ≡ 0 = omega arith in
        written_out (set xs o b) (suc o) new k (inl (omega arith))
        ∙ ap (λ i. get_or (set xs o b) i 0) same ∙ get_or-set_same xs o b 0 (omega arith)
        ∙ ap (λ i. get_or (b ∷ new) i 0) (sym first)

laid_in : (part : Part) (a before : ℕ) → part.address ≤ a → a < part.address + length part.bytes
    → laid_over part a before ≡ get_or part.bytes (a - part.address) 0
laid_in part a before from to =
    cond-true (nat_le part.address a && nat_lt a (part.address + length part.bytes))
    (get_or part.bytes (a - part.address) 0) before
    (and_from (nat_le part.address a) (nat_lt a (part.address + length part.bytes))
    (le-leb part.address a from) (lt-ltb a (part.address + length part.bytes) to))

laid_out : (part : Part) (a before : ℕ)
    → (a < part.address) ⊎ (part.address + length part.bytes ≤ a) → laid_over part a before ≡ before
laid_out part a before out =
    cond-false (nat_le part.address a && nat_lt a (part.address + length part.bytes))
    (get_or part.bytes (a - part.address) 0) before (go out)
  where
    go : (a < part.address) ⊎ (part.address + length part.bytes ≤ a)
        → (nat_le part.address a && nat_lt a (part.address + length part.bytes)) ≡ false
    go (inl below) = and_left (nat_le part.address a) (nat_lt a (part.address + length part.bytes))
        (lt-leb part.address a below)
    go (inr past) = and_right (nat_le part.address a) (nat_lt a (part.address + length part.bytes))
        (le-ltb a (part.address + length part.bytes) past)

-- what a copy of the stretch that falls into the page does to each of its bytes
pub laid_by_copy : (part : Part) (base start end : ℕ) (old new piece : List ℕ)
    → start ≡ max part.address base → end ≡ min (part.address + length part.bytes) (base + 4096)
    → start < end
    → piece ≡ take (end - part.address - (start - part.address))
    (drop (start - part.address) part.bytes) → length old ≡ 4096
    → new ≡ written old (start - base) piece
    → (k : ℕ) → k < 4096 → get_or new k 0 ≡ laid_over part (base + k) (get_or old k 0)
laid_by_copy part base start end old new piece s e some p l n k lt =
    ap (λ xs. get_or xs k 0) n
    ∙ go (cases_lt (base + k) part.address) (cases_lt (base + k) (part.address + length part.bytes))
  where
    size : length piece ≡ end - start
    size = ap length p ∙ omega (
      arith,
      length-take (end - part.address - (start - part.address))
          (drop (start - part.address) part.bytes),
      length-drop (start - part.address) part.bytes,
    )

    go : (base + k < part.address) ⊎ (part.address ≤ base + k)
        → (base + k < part.address + length part.bytes)
        ⊎ (part.address + length part.bytes ≤ base + k)
        → get_or (written old (start - base) piece) k 0 ≡ laid_over part (base + k) (get_or old k 0)
    go (inl below) after = written_out old (start - base) piece k (inl (omega arith))
        ∙ sym (laid_out part (base + k) (get_or old k 0) (inl below))
    go (inr from) (inr past) = written_out old (start - base) piece k (inr (omega (arith, size)))
        ∙ sym (laid_out part (base + k) (get_or old k 0) (inr past))
    go (inr from) (inl to) =
        written_in old (start - base) piece k (omega arith) (omega (arith, size)) (omega arith)
        ∙ ap (λ xs. get_or xs (k - (start - base)) 0) p
        ∙ get_or-take (end - part.address - (start - part.address))
        (drop (start - part.address) part.bytes) (k - (start - base)) 0 (omega arith)
        ∙ get_or-drop (start - part.address) part.bytes (k - (start - base)) 0
        ∙ ap (λ i. get_or part.bytes i 0) (omega arith)
        ∙ sym (laid_in part (base + k) (get_or old k 0) from to)

-- ---- the byte at an address, of parts that lie apart

found_at : {A : Type 0} (test : A → Bool) (xs : List A) (x : A) → find test xs ≡ Some x
    → (j : ℕ) × (j < length xs) × (get_or xs j x ≡ x) × (test x ≡ true)
found_at test [] x e = absurd cc
found_at test (y ∷ ys) x e = go (found_at test ys x) (test y) refl e
  where
    go : (find test ys ≡ Some x → (j : ℕ) × (j < length ys) × (get_or ys j x ≡ x) × (test x ≡ true))
        → (t : Bool) → test y ≡ t → cond t (Some y) (find test ys) ≡ Some x
        → (j : ℕ) × (j < length (y ∷ ys)) × (get_or (y ∷ ys) j x ≡ x) × (test x ≡ true)
    go rest true here is = let same : y ≡ x = cc in
        (0, omega arith, same, ap test (sym same) ∙ here)
    go rest false past is = let there = rest is in
        (suc there.0, omega (arith, there.1), there.2, there.3)

-- the first that covers the address, and one part more
pub byte_more : (parts : List Part) (i a : ℕ) (part : Part) → AllPairs IsApart parts
    → i < length parts → part ≡ get_or parts i part
    → laid_over part a (part_byte a (find (covers a) (take i parts)))
    ≡ part_byte a (find (covers a) (take (i + 1) parts))
byte_more parts i a part apart lt e =
    go (find (covers a) (take i parts)) refl
    ∙ sym (ap (λ ps. part_byte a (find (covers a) ps))
    (take_more parts i part lt ∙ ap (λ p. take i parts ++ p ∷ []) (sym e))
    ∙ ap (part_byte a) (find-append (covers a) (take i parts) (part ∷ [])))
  where
    alone : (from : (a < part.address) ⊎ (part.address ≤ a))
        → (to : (a < part.address + size_of part) ⊎ (part.address + size_of part ≤ a))
        → laid_over part a 0 ≡ part_byte a (cond (covers a part) (Some part) None)
    alone (inl below) to =
        laid_out part a 0 (inl below)
        ∙ sym (ap (λ t. part_byte a (cond t (Some part) None))
        (and_left (nat_le part.address a) (nat_lt a (part.address + size_of part))
        (lt-leb part.address a below)))
    alone (inr from) (inr past) = laid_out part a 0 (inr (omega arith))
        ∙ sym (ap (λ t. part_byte a (cond t (Some part) None))
        (and_right (nat_le part.address a) (nat_lt a (part.address + size_of part))
        (le-ltb a (part.address + size_of part) past)))
    alone (inr from) (inl to) =
        within (cases_lt a (part.address + length part.bytes))
        ∙ sym (ap (λ t. part_byte a (cond t (Some part) None))
        (and_from (nat_le part.address a) (nat_lt a (part.address + size_of part))
        (le-leb part.address a from) (lt-ltb a (part.address + size_of part) to)))
      where
        within : (a < part.address + length part.bytes) ⊎ (part.address + length part.bytes ≤ a)
            → laid_over part a 0 ≡ get_or part.bytes (a - part.address) 0
        within (inl in_file) = laid_in part a 0 from in_file
        within (inr behind) =
            laid_out part a 0 (inr behind)
            ∙ sym (get_or_past part.bytes (a - part.address) 0 (omega arith))

    go : (o : Option Part) → find (covers a) (take i parts) ≡ o
        → laid_over part a (part_byte a o) ≡ part_byte a (option_or o (find (covers a) (part ∷ [])))
    go None none = alone (cases_lt a part.address) (cases_lt a (part.address + size_of part))
    go (Some other) found =
        let there = found_at (covers a) (take i parts) other found in
        let before : there.0 < i = omega (arith, there.1, length-take i parts) in
        let first : get_or parts there.0 other ≡ other =
        sym (get_or-take i parts there.0 other before) ∙ there.2 in
        let second : get_or parts i other ≡ part = get_or_default parts i other part lt ∙ sym e in
        let both : IsApart other part =
        subst (λ (p : Part). IsApart p part) first
        (subst (λ (p : Part). IsApart (get_or parts there.0 other) p) second
        (apart there.0 i other before lt)) in
        let covered = and_parts (nat_le other.address a)
        (nat_lt a (other.address + size_of other)) there.3 in
        laid_out part a (part_byte a (Some other))
        (clear other both (leb-true other.address a covered.0)
        (ltb-true a (other.address + size_of other) covered.1))
      where
        clear : (other : Part) → IsApart other part → other.address ≤ a
            → a < other.address + size_of other
            → (a < part.address) ⊎ (part.address + length part.bytes ≤ a)
        clear other (inl ends) from to = inl (omega arith)
        clear other (inr begins) from to = inr (omega arith)

pub first_bytes : (target : List ℕ) → whole target ≡ zero_page → (k : ℕ) → k < 4096
    → get_or (whole target) k 0 ≡ 0
unfolding zero_page
first_bytes target e k lt = ap (λ xs. get_or xs k 0) e
    ∙ get_or-replicate 4096 k 0 0 lt

pub all_bytes : (image : Image) (page i : ℕ) (target : List ℕ) (parts : List Part)
    → parts ≡ image.parts → length parts ≤ i
    → ((k : ℕ) → k < 4096
    → get_or (whole target) k 0
    ≡ part_byte (4096 * page + k) (find (covers (4096 * page + k)) (take i parts)))
    → whole target ≡ page_bytes image page
all_bytes image page i target parts same all each =
    ext_get_or 0 (whole target) (page_bytes image page)
    (length-whole target
    ∙ sym (length-map (run_of (4096 * page) 4096) (byte_at image)
    ∙ length_run (4096 * page) 4096))
    (λ k lt. at k (omega (arith, length-whole target)))
  where
    at : (k : ℕ) → k < 4096 → get_or (whole target) k 0 ≡ get_or (page_bytes image page) k 0
    at k lt =
        each k lt ∙ ap (λ ps. part_byte (4096 * page + k) (find (covers (4096 * page + k)) ps))
        (take_all i parts all ∙ same)
        ∙ sym (get_or-map (byte_at image) (run_of (4096 * page) 4096) k 0 0
        (omega (arith, length_run (4096 * page) 4096))
        ∙ ap (byte_at image) (at_run (4096 * page) 4096 k lt))
