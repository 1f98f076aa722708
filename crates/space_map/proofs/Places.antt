-- What a search finds in a rising list of pages, and what a change at that place does.
use Rattle.std.proofs.Common.{◌≡◌, ℕ, zero, suc, ◌+◌, ◌<◌, ◌≤◌, List, [], ◌∷◌, length, get_or}
use Rattle.std.proofs.Common.{set, map, Option, Some, None, Result, Ok, Err, IfOk, IfErr, refl, sym}
use Rattle.std.proofs.Common.{ap, ap₂, ◌∙◌, subst, arith, rules, Global, Vec, vec_len}
use Rattle.std.specs.Prelude.{Bool, true, false, ◌==◌, IsSome, filter, AllPairs}
use Rattle.std.specs.List.{remove}
use Rattle.std.specs.List.Sorted.{IsSearchInRange, IsBinarySearchResult, IsNonDecreasingBy}
use Rattle.std.specs.Ordering.{nat_cmp, ordering_index}
use Rattle.std.proofs.lemmas.Cmp.{ranked}
use Rattle.std.proofs.lemmas.List.{length-map, length-set, get_or-map}
use Rattle.std.proofs.lemmas.List.Sorted.{IsNonDecreasingBy-from_default}
use Rattle.std.proofs.lemmas.List.Edits.{length-remove, get_or-remove_below}
use Rattle.std.proofs.lemmas.List.Edits.{get_or-remove_above}
use Rattle.std.proofs.lemmas.Bool.Decides.{nat_tests}
use Rattle.std.proofs.lemmas.List.Kept.{AllPairs-filter}
use Rattle.std.proofs.lemmas.List.Sums.{length-filter, count_by-le-length}
use Rattle.dos_world.specs.declared.Entry.{Entry}
use Rattle.dos_world.specs.World.{look}
use Rattle.space_map.proofs.Mapped.{get_or_any}
use Rattle.space_map.specs.Mapping.{no_entry, page_of_entry, IsAt, IsGapFor, all_but, marked}
use Rattle.space_map.specs.Mapping.{with_page_shared}
use Rattle.space_map.specs.Mapping.{replaced, with_replaced, shared_in_run, with_shared_run, IsKept}
use Rattle.space_map.specs.Mapping.{IsFirstFrom, IsRising, Mapping}

abbrev pub Rises : List (ℕ × Entry) → Type 0
Rises es = (i j : ℕ) → i < j → j < length es → page_of_entry es i < page_of_entry es j

module _ (es : List (ℕ × Entry)) (sorted : Rises es) (page : ℕ) where
  comparisons_rise : IsNonDecreasingBy (λ e. ordering_index (nat_cmp e.0 page)) es
  comparisons_rise = IsNonDecreasingBy-from_default (λ e. ordering_index (nat_cmp e.0 page)) es
      (0, no_entry) (λ i j le within.
      let pages_rise : page_of_entry es i ≤ page_of_entry es j =
      grind (arith, sorted i j, λ (same : i ≡ j). ap (page_of_entry es) same) in
      grind (arith, nat_tests))

  -- a binary search by page ends at the page, or at the gap for it
  pub searched : (r : Result ℕ ℕ) → IsSearchInRange r (length es)
      → IsBinarySearchResult (λ e. nat_cmp e.0 page) es r
      → record { found : IfOk r (IsAt es page); gap : IfErr r (IsGapFor es page) }
  searched (Ok place) within equal =
      record {
        found = record { within = within; is = ranked _ page _ (sym (equal (0, no_entry))) };
        gap = tt;
      }
  searched (Err place) within parted = record {
    found = tt;
    gap = record {
      within = within;
      lower = λ j lt. ranked _ page _
          (sym ((parted comparisons_rise).0 j (0, no_entry) (omega arith) lt));
      higher = λ j le lt. ranked _ page _ (sym ((parted comparisons_rise).1 j (0, no_entry) le lt));
    };
  }

-- page by page
pub rising-adjacent : (es : List (ℕ × Entry)) → Rises es → IsRising es
rising-adjacent es sorted k h =
    let count : length (map (λ (e : ℕ × Entry). e.0) es) ≡ length es =
    length-map es (λ (e : ℕ × Entry). e.0) in
    let one : get_or (map (λ (e : ℕ × Entry). e.0) es) k 0 ≡ page_of_entry es k =
    get_or-map (λ (e : ℕ × Entry). e.0) es k (0, no_entry) 0 (omega arith) in
    let two : get_or (map (λ (e : ℕ × Entry). e.0) es) (k + 1) 0 ≡ page_of_entry es (k + 1) =
    get_or-map (λ (e : ℕ × Entry). e.0) es (k + 1) (0, no_entry) 0 (omega arith) in
    omega (arith, sorted k (k + 1) (omega arith) (omega arith))

-- ---- looking up

abbrev NoneBefore : List (ℕ × Entry) → ℕ → ℕ → Type 0
NoneBefore es page n = (i : ℕ) → i < n → page_of_entry es i ≡ page → ⊥

none_rest : (e : ℕ × Entry) (es : List (ℕ × Entry)) (page n : ℕ) → NoneBefore (e ∷ es) page (suc n)
    → NoneBefore es page n
none_rest e es page n none i lt = none (suc i) (omega arith)

at_rest : (e : ℕ × Entry) (es : List (ℕ × Entry)) (page n : ℕ) → IsAt (e ∷ es) page (suc n)
    → IsAt es page n
at_rest e es page n at = record { within = omega (arith, at.within); is = at.is }

other_test : (e : ℕ × Entry) (page : ℕ) → (e.0 ≡ page → ⊥) → (e.0 == page) ≡ false
other_test e page n = grind (arith, nat_tests)

same_test : (e : ℕ × Entry) (page : ℕ) → e.0 ≡ page → (e.0 == page) ≡ true
same_test e page n = grind (arith, nat_tests)

look-none : (es : List (ℕ × Entry)) (page : ℕ) → NoneBefore es page (length es)
    → look es page ≡ None
look-none [] page none = refl
look-none (e ∷ es) page none =
    rw (other_test e page (none 0 (omega arith)))
    (look-none es page (none_rest e es page (length es) none))

look-first : (es : List (ℕ × Entry)) (page place : ℕ) → IsAt es page place
    → NoneBefore es page place → look es page ≡ Some (get_or es place (0, no_entry)).1
look-first [] page place at none = absurd (omega (arith, at.within))
look-first (e ∷ es) page zero at none = rw (same_test e page at.is) refl
look-first (e ∷ es) page (suc n) at none =
    rw (other_test e page (none 0 (omega arith)))
    (look-first es page n (at_rest e es page n at) (none_rest e es page n none))

none_at : (es : List (ℕ × Entry)) (page place : ℕ) → Rises es → IsAt es page place
    → NoneBefore es page place
none_at es page place sorted at i lt same = omega (arith, sorted i place lt at.within, at.is)

none_in_gap : (es : List (ℕ × Entry)) (page place : ℕ) → IsGapFor es page place
    → NoneBefore es page (length es)
none_in_gap es page place gap i lt same = grind (arith, gap.lower i, gap.higher i)

pub look-at : (es : List (ℕ × Entry)) (page place : ℕ) → Rises es → IsAt es page place
    → look es page ≡ Some (get_or es place (0, no_entry)).1
look-at es page place sorted at = look-first es page place at (none_at es page place sorted at)

pub look-gap : (es : List (ℕ × Entry)) (page place : ℕ) → IsGapFor es page place
    → look es page ≡ None
look-gap es page place gap = look-none es page (none_in_gap es page place gap)

pub nothing : (o : Option Entry) → o ≡ None → IsSome o → ⊥
nothing o e h = let never : IsSome {T = Entry} None = subst (λ (x : Option Entry). IsSome x) e h in
    cc

-- ---- removing

without-none : (es : List (ℕ × Entry)) (page : ℕ) → NoneBefore es page (length es)
    → all_but page es ≡ es
without-none [] page none = refl
without-none (e ∷ es) page none =
    rw (other_test e page (none 0 (omega arith)))
    (ap (λ xs. e ∷ xs) (without-none es page (none_rest e es page (length es) none)))

rises-rest : (e : ℕ × Entry) (es : List (ℕ × Entry)) → Rises (e ∷ es) → Rises es
rises-rest e es sorted i j lt within = sorted (suc i) (suc j) (omega arith) (omega arith)

pub remove-without : (es : List (ℕ × Entry)) (page place : ℕ) → Rises es → IsAt es page place
    → remove es place ≡ all_but page es
remove-without [] page place sorted at = absurd (omega (arith, at.within))
remove-without (e ∷ es) page zero sorted at =
    let none : NoneBefore es page (length es) =
    λ i lt same. omega (arith, at.is, sorted 0 (suc i) (omega arith) (omega arith)) in
    rw (same_test e page at.is) (sym (without-none es page none))
remove-without (e ∷ es) page (suc n) sorted at =
    rw (other_test e page (none_at (e ∷ es) page (suc n) sorted at 0 (omega arith)))
    (ap (λ xs. e ∷ xs)
    (remove-without es page n (rises-rest e es sorted) (at_rest e es page n at)))

-- ---- an entry changed

-- what changes no other page's entry
abbrev KeepsOthers : (ℕ × Entry → ℕ × Entry) → ℕ → Type 0
KeepsOthers f page = (e : ℕ × Entry) → (e.0 == page) ≡ false → f e ≡ e

map-none : (f : ℕ × Entry → ℕ × Entry) (es : List (ℕ × Entry)) (page : ℕ) → KeepsOthers f page
    → NoneBefore es page (length es) → map f es ≡ es
map-none f [] page keeps none = refl
map-none f (e ∷ es) page keeps none =
    ap₂ (λ x xs. x ∷ xs) (keeps e (other_test e page (none 0 (omega arith))))
    (map-none f es page keeps (none_rest e es page (length es) none))

set-changed : (f : ℕ × Entry → ℕ × Entry) (es : List (ℕ × Entry)) (page place : ℕ)
    (new : ℕ × Entry) → KeepsOthers f page → Rises es → IsAt es page place
    → new ≡ f (get_or es place (0, no_entry)) → set es place new ≡ map f es
set-changed f [] page place new keeps sorted at is = absurd (omega (arith, at.within))
set-changed f (e ∷ es) page zero new keeps sorted at is =
    let none : NoneBefore es page (length es) =
    λ i lt same. omega (arith, at.is, sorted 0 (suc i) (omega arith) (omega arith)) in
    ap₂ (λ x xs. x ∷ xs) is (sym (map-none f es page keeps none))
set-changed f (e ∷ es) page (suc n) new keeps sorted at is =
    ap₂ (λ x xs. x ∷ xs)
    (sym (keeps e (other_test e page (none_at (e ∷ es) page (suc n) sorted at 0 (omega arith)))))
    (set-changed f es page n new keeps (rises-rest e es sorted) (at_rest e es page n at) is)

pub set-shared : (es : List (ℕ × Entry)) (page place : ℕ) (new : ℕ × Entry) → Rises es
    → IsAt es page place → new ≡ (page, record (get_or es place (0, no_entry)).1 { shared = true })
    → set es place new ≡ with_page_shared page es
set-shared es page place new sorted at is =
    let here : ℕ × Entry = get_or es place (0, no_entry) in
    set-changed (marked page) es page place new (λ e other. rw other refl) sorted at
    (is ∙ rw (same_test here page at.is)
    (ap (λ n. (n, record here.1 { shared = true })) (sym at.is)))

pub set-replaced : (es : List (ℕ × Entry)) (page place : ℕ) (entry : Entry) → Rises es
    → IsAt es page place → set es place (page, entry) ≡ with_replaced page entry es
set-replaced es page place entry sorted at =
    set-changed (replaced page entry) es page place (page, entry) (λ e other. rw other refl)
    sorted at
    (rw (same_test (get_or es place (0, no_entry)) page at.is)
    (ap (λ n. (n, entry)) (sym at.is)))

-- ---- runs of pages

rises-filter : (keep : ℕ × Entry → Bool) (es : List (ℕ × Entry)) → Rises es → Rises (filter keep es)
rises-filter keep es sorted i j lt within =
    AllPairs-filter (λ a b. a.0 < b.0) keep es pairs i j (0, no_entry) lt within
  where
    pairs : AllPairs (λ a b. a.0 < b.0) es
    pairs i j d lt within =
        let one : get_or es i d ≡ get_or es i (0, no_entry) =
        get_or_any es i d (0, no_entry) (omega arith) in
        let two : get_or es j d ≡ get_or es j (0, no_entry) =
        get_or_any es j d (0, no_entry) within in
        omega (
          arith,
          sorted i j lt within,
          ap (λ (e : ℕ × Entry). e.0) one,
          ap (λ (e : ℕ × Entry). e.0) two,
        )

rises-map : (f : ℕ × Entry → ℕ × Entry) → ((e : ℕ × Entry) → (f e).0 ≡ e.0)
    → (es : List (ℕ × Entry)) → Rises es → Rises (map f es)
rises-map f same es sorted i j lt within =
    let count : length (map f es) ≡ length es = length-map es f in
    let one : page_of_entry (map f es) i ≡ page_of_entry es i =
    ap (λ (e : ℕ × Entry). e.0) (get_or-map f es i (0, no_entry) (0, no_entry) (omega arith))
    ∙ same (get_or es i (0, no_entry)) in
    let two : page_of_entry (map f es) j ≡ page_of_entry es j =
    ap (λ (e : ℕ × Entry). e.0) (get_or-map f es j (0, no_entry) (0, no_entry) (omega arith))
    ∙ same (get_or es j (0, no_entry)) in
    omega (arith, sorted i j lt (omega arith))

-- ---- what a space keeps, and what it shows

pub kept-filter : (keep : ℕ × Entry → Bool) {es new : List (ℕ × Entry)} {room capacity same : ℕ}
    → IsKept es room capacity → new ≡ filter keep es → same ≡ capacity → IsKept new room same
kept-filter keep {es} {new} {room} {capacity} {same} k e c = record {
  rising = subst Rises (sym e) (rises-filter keep es k.rising);
  fits = omega (arith, ap length e, length-filter keep es, count_by-le-length keep es, k.fits);
  taken = omega (arith, k.taken);
  few = k.few;
}

pub kept-shared : (page count : ℕ) {es new : List (ℕ × Entry)} {room capacity same : ℕ}
    → IsKept es room capacity → new ≡ with_shared_run page count es → same ≡ capacity
    → IsKept new room same
kept-shared page count {es} {new} {room} {capacity} {same} k e c = record {
  rising = subst Rises (sym e) (rises-map (shared_in_run page count) (λ x. refl) es k.rising);
  fits = omega (arith, ap length e, length-map es (shared_in_run page count), k.fits);
  taken = omega (arith, k.taken);
  few = k.few;
}

-- the page's entry changed in its place
pub kept-set : (entry : Entry) {es : List (ℕ × Entry)} {room capacity page place : ℕ}
    → IsKept es room capacity → IsAt es page place
    → IsKept (set es place (page, entry)) room capacity
kept-set entry {es} {room} {capacity} {page} {place} k at = record {
  rising = subst Rises (sym (set-replaced es page place entry k.rising at))
      (rises-map (replaced page entry) (λ x. refl) es k.rising);
  fits = omega (arith, length-set es place (page, entry), k.fits);
  taken = k.taken;
  few = k.few;
}

-- where the search found the page, in the entries themselves
pub at-inside : {m n : Mapping} {page place : ℕ} → m ≡ n → IsAt n.entries page place
    → IsAt m.entries page place
at-inside {m} {n} {page} {place} e at =
    subst (λ (x : Mapping). IsAt x.entries page place) (sym e) at

pub first-inside : {m n : Mapping} {page first : ℕ} → m ≡ n → IsFirstFrom n.entries page first
    → IsFirstFrom m.entries page first
first-inside {m} {n} {page} {first} e from =
    subst (λ (x : Mapping). IsFirstFrom x.entries page first) (sym e) from

-- an index of a vector's entries
pub index-of : (v : Vec (ℕ × Entry) Global) {page place : ℕ} → IsAt v.items page place
    → place < vec_len v
index-of v {page} {place} at =
    let count : vec_len v ≡ length v.items = search rules in
    subst (λ (n : ℕ). place < n) (sym count) at.within

rises-remove : (es : List (ℕ × Entry)) (place : ℕ) → place < length es → Rises es
    → Rises (remove es place)
rises-remove es place h sorted i j lt within =
    let new : List (ℕ × Entry) = remove es place in
    let number : (ℕ × Entry) → ℕ = λ (e : ℕ × Entry). e.0 in
    let count = length-remove es place h in
    let before : (k : ℕ) → k < place
    → page_of_entry new k ≡ page_of_entry es k =
    λ k l. ap number (get_or-remove_below es place (0, no_entry) k l h) in
    let after : (k : ℕ) → place ≤ k → page_of_entry new k ≡ page_of_entry es (k + 1) =
    λ k l. ap number (get_or-remove_above es place (0, no_entry) k l h) in
    grind (
      arith,
      before i,
      after i,
      before j,
      after j,
      sorted i j,
      sorted i (j + 1),
      sorted (i + 1) (j + 1),
    )

pub kept-remove : {es new : List (ℕ × Entry)} {room capacity same : ℕ} (place : ℕ)
    → IsKept es room capacity → place < length es → new ≡ remove es place → same ≡ capacity
    → IsKept new room same
kept-remove {es} {new} {room} {capacity} {same} place k h e c = record {
  rising = subst Rises (sym e) (rises-remove es place h k.rising);
  fits = omega (arith, ap length e, length-remove es place h, k.fits);
  taken = omega (arith, k.taken);
  few = k.few;
}

with_entries : List (ℕ × Entry) → Mapping → Mapping
with_entries es m = record m { entries = es }

-- new entries in place of the old ones
pub shown-changed : (f : List (ℕ × Entry) → List (ℕ × Entry)) {m n : Mapping}
    {es : List (ℕ × Entry)} → m ≡ n → es ≡ f m.entries
    → ◌≡◌ {A = Mapping} (record m { entries = es }) (record n { entries = f n.entries })
unfolding with_entries
shown-changed f {m} {n} {es} e h =
    ap (λ xs. with_entries xs m) h ∙ ap (λ x. with_entries (f x.entries) x) e
