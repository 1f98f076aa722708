-- A run of pages put into a space, at one place.
use Rattle.std.proofs.Common.{◌≡◌, ℕ, zero, suc, ◌+◌, ◌-◌, ◌<◌, ◌≤◌, Bool, true, false, List, []}
use Rattle.std.proofs.Common.{◌∷◌, ◌++◌, length, get_or, map, take, drop, length-append, refl, sym}
use Rattle.std.proofs.Common.{ap, ap₂, subst, ◌∙◌, arith}
use Rattle.std.specs.Prelude.{nat_lt}
use Rattle.std.specs.List.{insert, insert_slice, list_any}
use Rattle.std.proofs.lemmas.Bool.Decides.{nat_tests}
use Rattle.std.proofs.lemmas.List.{append-nil, append_assoc, drop-append-le, drop_all, drop_at}
use Rattle.std.proofs.lemmas.List.{get_or-append_right, get_or-drop, get_or-take}
use Rattle.std.proofs.lemmas.List.{get_or_append_left, length-drop, length-take-le, take-append-le}
use Rattle.std.proofs.lemmas.List.{take_at, take_rest}
use Rattle.std.proofs.lemmas.List.Folds.{list_any_at}
use Rattle.dos_world.specs.declared.Entry.{Entry}
use Rattle.dos_world.specs.Kernel.{put}
use Rattle.dos_world.specs.Numbered.{run_of}
use Rattle.space_map.specs.Mapping.{no_entry, page_of_entry, in_run, put_run, IsFirstFrom, IsGapFor}
use Rattle.space_map.specs.Mapping.{IsKept}
use Rattle.space_map.proofs.Places.{Rises}
use Rattle.space_map.proofs.Runs.{out-of-run}

-- the run would stand at this place: lower pages before it, and from it on pages behind the run
pub record IsRunGap (es : List (ℕ × Entry)) (page count place : ℕ) : Type 0 where
  pub within : place ≤ length es
  pub lower : (i : ℕ) → i < place → page_of_entry es i < page
  pub higher : (i : ℕ) → place ≤ i → i < length es → page + count ≤ page_of_entry es i

-- where none of the run is mapped, it stands at the first page that isn't below it
pub run-gap : (es : List (ℕ × Entry)) (page count first : ℕ) → IsFirstFrom es page first
    → list_any (in_run page count) es ≡ false → IsRunGap es page count first
run-gap es page count first from none = record {
  within = from.within;
  lower = from.lower;
  higher = λ i l m. out-of-run page count (get_or es i (0, no_entry)) (from.higher i l m)
      (outside i m (in_run page count (get_or es i (0, no_entry))) refl);
}
  where
    outside : (i : ℕ) → i < length es → (b : Bool)
        → in_run page count (get_or es i (0, no_entry)) ≡ b
        → in_run page count (get_or es i (0, no_entry)) ≡ false
    outside i m false e = e
    outside i m true e =
        let any = list_any_at (in_run page count) es i (0, no_entry) m e in
        cc

-- ---- what is put

abbrev pub run_entries : ℕ → ℕ → Entry → List (ℕ × Entry)
run_entries page count entry = map (λ p. (p, entry)) (run_of page count)

-- a run above the first page is put behind it
put_behind : (e : ℕ × Entry) (es : List (ℕ × Entry)) (page count : ℕ) (entry : Entry) → e.0 < page
    → put_run page count entry (e ∷ es) ≡ e ∷ put_run page count entry es
put_behind e es page zero entry h = refl
put_behind e es page (suc count) entry h =
    let below : nat_lt page e.0 ≡ false = grind (arith, nat_tests) in
    rw below (put_behind e (put page entry es) (suc page) count entry (omega arith))

-- a run below all pages is put before them
put_before : (es : List (ℕ × Entry)) (page count : ℕ) (entry : Entry) → IsRunGap es page count 0
    → put_run page count entry es ≡ run_entries page count entry ++ es
put_before es page zero entry gap = refl
put_before es page (suc count) entry gap =
    ap (put_run (suc page) count entry) (one es gap)
    ∙ put_behind (page, entry) es (suc page) count entry (omega arith)
    ∙ ap (λ ys. (page, entry) ∷ ys) (put_before es (suc page) count entry (record {
      within = omega arith;
      lower = λ i l. absurd (omega arith);
      higher = λ i l m. omega (arith, gap.higher i l m);
    }))
  where
    one : (es : List (ℕ × Entry)) → IsRunGap es page (suc count) 0
        → put page entry es ≡ (page, entry) ∷ es
    one [] gap = refl
    one (e ∷ es) gap =
        let above : nat_lt page e.0 ≡ true =
        grind (arith, nat_tests, gap.higher 0 (omega arith) (omega arith)) in
        rw above refl

pub put-run-at : (es : List (ℕ × Entry)) (page count place : ℕ) (entry : Entry)
    → IsRunGap es page count place
    → insert_slice es place (run_entries page count entry)
    ≡ put_run page count entry es
put-run-at es page count zero entry gap = sym (put_before es page count entry gap)
put-run-at [] page count (suc n) entry gap = absurd (omega (arith, gap.within))
put-run-at (e ∷ es) page count (suc n) entry gap =
    ap (λ ys. e ∷ ys) (put-run-at es page count n entry (record {
      within = omega (arith, gap.within);
      lower = λ i l. gap.lower (suc i) (omega arith);
      higher = λ i l m. gap.higher (suc i) (omega arith) (omega arith);
    }))
    ∙ sym (put_behind e es page count entry (gap.lower 0 (omega arith)))

pub length-run : (page count : ℕ) (entry : Entry) → length (run_entries page count entry) ≡ count
length-run page zero entry = refl
length-run page (suc count) entry = omega (arith, length-run (suc page) count entry)

page-of-run : (page count : ℕ) (entry : Entry) (i : ℕ) → i < count
    → page_of_entry (run_entries page count entry) i ≡ page + i
page-of-run page zero entry i h = absurd (omega arith)
page-of-run page (suc count) entry zero h = omega arith
page-of-run page (suc count) entry (suc i) h =
    omega (arith, page-of-run (suc page) count entry i (omega arith))

front-length : (es : List (ℕ × Entry)) (page count place : ℕ) (entry : Entry)
    → place ≤ length es
    → length (take place es ++ run_entries page count entry) ≡ place + count
front-length es page count place entry h = omega (
  arith,
  length-append (take place es) (run_entries page count entry),
  length-take-le place es h,
  length-run page count entry,
)

whole-length : (es : List (ℕ × Entry)) (page count place : ℕ) (entry : Entry)
    → place ≤ length es
    → length (insert_slice es place (run_entries page count entry))
    ≡ length es + count
whole-length es page count place entry h = omega (
  arith,
  front-length es page count place entry h,
  length-append (take place es ++ run_entries page count entry) (drop place es),
  length-drop place es,
)

-- each page is an old one before the run, one of the run, or an old one moved up behind it
rises-run : (es : List (ℕ × Entry)) (page count place : ℕ) (entry : Entry)
    → IsRunGap es page count place → Rises es
    → Rises (insert_slice es place (run_entries page count entry))
rises-run es page count place entry gap sorted i j lt within =
    grind (
      arith,
      before i,
      here i,
      after i,
      before j,
      here j,
      after j,
      sorted i j,
      sorted i (j - count),
      sorted (i - count) (j - count),
      gap.lower i,
      gap.higher (j - count),
      whole-length es page count place entry gap.within,
    )
  where
    front : length (take place es ++ run_entries page count entry) ≡ place + count
    front = front-length es page count place entry gap.within

    before : (k : ℕ) → k < place
        → page_of_entry (insert_slice es place (run_entries page count entry)) k
        ≡ page_of_entry es k
    before k h = ap (λ (e : ℕ × Entry). e.0)
        (get_or_append_left (take place es ++ run_entries page count entry) (drop place es)
        (0, no_entry) k (omega (arith, front))
        ∙ get_or_append_left (take place es) (run_entries page count entry) (0, no_entry) k
        (omega (arith, length-take-le place es gap.within))
        ∙ get_or-take place es k (0, no_entry) h)

    here : (k : ℕ) → place ≤ k → k < place + count
        → page_of_entry (insert_slice es place (run_entries page count entry)) k
        ≡ page + (k - place)
    here k h l = ap (λ (e : ℕ × Entry). e.0)
        (get_or_append_left (take place es ++ run_entries page count entry) (drop place es)
        (0, no_entry) k (omega (arith, front))
        ∙ get_or-append_right (take place es) (run_entries page count entry) place k
        (0, no_entry) (length-take-le place es gap.within) h)
        ∙ page-of-run page count entry (k - place) (omega arith)

    after : (k : ℕ) → place + count ≤ k
        → page_of_entry (insert_slice es place (run_entries page count entry)) k
        ≡ page_of_entry es (k - count)
    after k h =
        let same : place + (k - (place + count)) ≡ k - count = omega arith in
        ap (λ (e : ℕ × Entry). e.0)
        (get_or-append_right (take place es ++ run_entries page count entry) (drop place es)
        (place + count) k (0, no_entry) front h
        ∙ get_or-drop place es (k - (place + count)) (0, no_entry))
        ∙ ap (page_of_entry es) same

pub kept-run : (entry : Entry) {es new : List (ℕ × Entry)} {room capacity grown : ℕ}
    {page count place : ℕ} → IsKept es room capacity → IsRunGap es page count place
    → length es + count ≤ room
    → new ≡ insert_slice es place (run_entries page count entry) → capacity ≤ grown
    → IsKept new room grown
kept-run entry {es} {new} {room} {capacity} {grown} {page} {count} {place} k gap h e c = record {
  rising = subst Rises (sym e) (rises-run es page count place entry gap k.rising);
  fits = omega (arith, ap length e, whole-length es page count place entry gap.within);
  taken = omega (arith, k.taken);
  few = k.few;
}

-- ---- one page, which is a run of one

insert-run : (es : List (ℕ × Entry)) (place : ℕ) (e : ℕ × Entry) → place ≤ length es
    → insert es place e ≡ insert_slice es place (e ∷ [])
insert-run [] zero e h = refl
insert-run [] (suc n) e h = absurd (omega arith)
insert-run (x ∷ es) zero e h = refl
insert-run (x ∷ es) (suc n) e h = ap (λ ys. x ∷ ys) (insert-run es n e (omega arith))

module _ {es : List (ℕ × Entry)} {page place : ℕ} (entry : Entry)
    (gap : IsGapFor es page place) where
  one-gap : IsRunGap es page 1 place
  one-gap = record {
    within = gap.within;
    lower = gap.lower;
    higher = λ i l m. omega (arith, gap.higher i l m);
  }

  pub insert-put : insert es place (page, entry) ≡ put page entry es
  insert-put = insert-run es place (page, entry) gap.within
      ∙ put-run-at es page 1 place entry one-gap

  pub kept-put : {new : List (ℕ × Entry)} {room capacity grown : ℕ} → IsKept es room capacity
      → length es < room → new ≡ insert es place (page, entry) → capacity ≤ grown
      → IsKept new room grown
  kept-put k h e c = kept-run entry k one-gap (omega arith)
      (e ∙ insert-run es place (page, entry) gap.within) c

-- ---- the run pushed behind all entries, and turned to its place

pub one_pushed : (old items new : List (ℕ × Entry)) (page i : ℕ) (entry : Entry)
    → items ≡ old ++ run_entries page i entry → new ≡ items ++ (page + i, entry) ∷ []
    → new ≡ old ++ run_entries page (i + 1) entry
one_pushed old items new page i entry so_far one =
    let next : suc i ≡ i + 1 = omega arith in
    one ∙ ap (λ xs. xs ++ (page + i, entry) ∷ []) so_far
    ∙ append_assoc old (run_entries page i entry) ((page + i, entry) ∷ [])
    ∙ ap (λ xs. old ++ xs) (last page i ∙ ap (λ n. run_entries page n entry) next)
  where
    last : (page i : ℕ) → run_entries page i entry ++ (page + i, entry) ∷ []
        ≡ run_entries page (suc i) entry
    last page zero = let same : page + 0 ≡ page = omega arith in ap (λ n. (n, entry) ∷ []) same
    last page (suc i) = let same : page + suc i ≡ suc page + i = omega arith in
        ap (λ n. (page, entry) ∷ run_entries (suc page) i entry ++ (n, entry) ∷ []) same
        ∙ ap (λ xs. (page, entry) ∷ xs) (last (suc page) i)

module _ {X : Type 0} (old run xs : List X) (place count : ℕ) (is : xs ≡ old ++ run)
    (within : place ≤ length old) (counted : length run ≡ count) where
  -- what stands from the place on
  abbrev part : List X
  part = take (length xs - place) (drop place xs)

  part-is : part ≡ drop place old ++ run
  part-is = take_rest xs place ∙ ap (drop place) is ∙ drop-append-le place old run within

  pub long-enough : count ≤ length part
  long-enough = omega (arith, ap length part-is, length-append (drop place old) run, counted)

  abbrev turn : List X → List X
  turn ys = drop (length ys - count) ys ++ take (length ys - count) ys

  turn-is : (ys : List X) → ys ≡ turn part → ys ≡ run ++ drop place old
  turn-is ys e = e ∙ ap turn part-is
      ∙ ap₂ (λ a b. a ++ b) (drop_at (drop place old) run _ here)
      (take_at (drop place old) run _ here)
    where
      here : length (drop place old) ≡ length (drop place old ++ run) - count
      here = omega (arith, length-append (drop place old) run, counted)

  abbrev behind : List X
  behind = drop (length xs - place) (drop place xs)

  none-behind : behind ≡ []
  none-behind = drop_all (length xs - place) (drop place xs)
      (omega (arith, length-drop place xs))

  -- as a vector is seen whose part was turned
  pub turned : (ys more : List X) (len : ℕ) → ys ≡ turn part → len ≡ length xs
      → take len (take place xs ++ (ys ++ behind)
      ++ drop (length (take place xs ++ (ys ++ behind))) more)
      ≡ insert_slice old place run
  turned ys more len e count_is =
      take_at (take place xs ++ (ys ++ behind)) _ len
      (omega (arith, ap length whole, lengths, ap length is, length-append old run, count_is))
      ∙ whole
    where
      before : take place xs ≡ take place old
      before = ap (take place) is ∙ take-append-le place old run within

      whole : take place xs ++ (ys ++ behind) ≡ insert_slice old place run
      whole = ap₂ (λ a b. a ++ b) before
          (ap (λ b. ys ++ b) none-behind ∙ append-nil ys ∙ turn-is ys e)
          ∙ sym (append_assoc (take place old) run (drop place old))

      lengths : length (insert_slice old place run) ≡ length old + length run
      lengths = omega (
        arith,
        length-append (take place old ++ run) (drop place old),
        length-append (take place old) run,
        length-take-le place old within,
        length-drop place old,
      )
