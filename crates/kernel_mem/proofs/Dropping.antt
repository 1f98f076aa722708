-- The uses and owners of frames, as a space's entries go one after another.
use Rattle.std.proofs.Common.{◌≡◌, ◌≢◌, ℕ, zero, suc, ◌+◌, ◌-◌, ◌<◌, ◌≤◌, Bool, true, false, cond}
use Rattle.std.proofs.Common.{◌⊎◌, inl, inr, List, [], ◌∷◌, ◌++◌, length, get_or, set, take}
use Rattle.std.proofs.Common.{Option, Some, None, IsSome, All}
use Rattle.std.proofs.Common.{length-set, get_or-set_same, get_or-set_other, refl, sym, ap, ◌∙◌}
use Rattle.std.proofs.Common.{arith}
use Rattle.std.specs.Prelude.{◌==◌, ◌&&◌, not, nat_lt, filter, is_some, slice_get}
use Rattle.std.proofs.lemmas.Bool.{cases_eq, ne_eqb}
use Rattle.std.proofs.lemmas.Bool.Decides.{nat_tests}
use Rattle.std.proofs.lemmas.List.{take_more}
use Rattle.std.proofs.lemmas.Option.{get_or_from_slice_get}
use Rattle.std.proofs.lemmas.List.Elements.{filter-append}
use Rattle.std.proofs.lemmas.List.Filters.{sum_by-filter_both}
use Rattle.std.proofs.lemmas.List.Sums.{count_by_more_no, count_by_more_yes, sum_by-append}
use Rattle.std.proofs.lemmas.List.Sums.{sum_by-cons, sum_by-take-drop}
use Rattle.dos_world.specs.declared.Owner.{Owner}
use Rattle.dos_world.specs.declared.Owner.TheVariants.{Free}
use Rattle.dos_world.specs.declared.Entry.{Entry}
use Rattle.page_store.specs.Store.{Store, zeroed, with_less, owner_at, page_at, uses_at}
use Rattle.page_store.proofs.Kept.{frames-same}
use Rattle.page_store.proofs.Counts.{used-within}
use Rattle.kernel_mem.specs.Memory.{entries_of, is_last, page_without, IsDropped, AreUsed}

-- ---- one entry more

abbrev one_if : Bool → ℕ
one_if b = cond b 1 0

abbrev pub no_entry : ℕ × Entry
no_entry = (0, record { frame = 0; write = false; exec = false; shared = false })

-- one more of these entries is among those that are gone
abbrev IsOneMore : List (ℕ × Entry) → (ℕ × Entry) → List (ℕ × Entry) → Type 0
IsOneMore gone e more = (f : ℕ) → entries_of more f ≡ entries_of gone f + one_if (e.1.frame == f)

-- the next in a space
one-taken : (es : List (ℕ × Entry)) (i : ℕ) (e : ℕ × Entry) → i < length es
    → get_or es i no_entry ≡ e → IsOneMore (take i es) e (take (i + 1) es)
one-taken es i e h q f = by (e.1.frame == f) refl
  where
    by : (b : Bool) → (e.1.frame == f) ≡ b
        → entries_of (take (i + 1) es) f ≡ entries_of (take i es) f + one_if b
    by true t = count_by_more_yes (λ (x : ℕ × Entry). x.1.frame == f) es i no_entry h
        (ap (λ (x : ℕ × Entry). x.1.frame == f) q ∙ t)
    by false t = count_by_more_no (λ (x : ℕ × Entry). x.1.frame == f) es i no_entry h
        (ap (λ (x : ℕ × Entry). x.1.frame == f) q ∙ t) ∙ omega arith

used-front : (s : Store) (es : List (ℕ × Entry)) (i : ℕ) → AreUsed es s → AreUsed (take i es) s
used-front s es i used f = omega
    (arith, used f, sum_by-take-drop (λ (x : ℕ × Entry). one_if (x.1.frame == f)) es i)

-- ---- those of a space that pass a test

module _ (test : ℕ × Entry → Bool) (es : List (ℕ × Entry)) (i : ℕ) (e : ℕ × Entry)
    (h : i < length es) (q : get_or es i no_entry ≡ e) where
  one-appended : filter test (take (i + 1) es) ≡ filter test (take i es) ++ filter test (e ∷ [])
  one-appended = ap (filter test) (take_more es i no_entry h)
      ∙ filter-append test (take i es) (get_or es i no_entry ∷ [])
      ∙ ap (λ (x : ℕ × Entry). filter test (take i es) ++ filter test (x ∷ [])) q

  -- the next one does
  one-passed : test e ≡ true
      → IsOneMore (filter test (take i es)) e (filter test (take (i + 1) es))
  one-passed passes f =
      let one : ℕ × Entry → ℕ = λ x. one_if (x.1.frame == f) in
      ap (λ xs. entries_of xs f) (one-appended
      ∙ ap (λ b. filter test (take i es) ++ cond b (e ∷ []) []) passes)
      ∙ omega (
        arith,
        sum_by-append one (filter test (take i es)) (e ∷ []),
        sum_by-cons one e [],
      )

used-passed : (s : Store) (test : ℕ × Entry → Bool) (es : List (ℕ × Entry)) → AreUsed es s
    → AreUsed (filter test es) s
used-passed s test es used f = omega (
  arith,
  used f,
  sum_by-filter_both test (λ e. not (test e)) (λ e. refl)
      (λ (x : ℕ × Entry). one_if (x.1.frame == f)) es,
)

-- an entry that is still to go is a use
still-used : (s t : Store) (gone more : List (ℕ × Entry)) (e : ℕ × Entry) → AreUsed more s
    → IsDropped gone s t → IsOneMore gone e more → 0 < uses_at t e.1.frame
still-used s t gone more e used dropped one =
    let here : (e.1.frame == e.1.frame) ≡ true = eqb_same e.1.frame in
    omega (arith, used e.1.frame, dropped.uses e.1.frame, one e.1.frame, ap one_if here)
  where
    eqb_same : (n : ℕ) → (n == n) ≡ true
    eqb_same n = grind (arith, nat_tests)

-- ---- one use less

less-uses : (t : Store) (n f : ℕ) → n < length t.uses
    → uses_at (with_less t n) f ≡ uses_at t f - one_if (n == f)
less-uses t n f h = elim (cases_eq f n) [
  | inl same ↦ ap (λ k. get_or (set t.uses n (get_or t.uses n 0 - 1)) k 0) same
      ∙ get_or-set_same t.uses n (get_or t.uses n 0 - 1) 0 h
      ∙ ap (λ k. get_or t.uses k 0 - 1) (sym same)
      ∙ ap (λ b. uses_at t f - one_if b) (sym (is same))
  | inr other ↦ get_or-set_other t.uses n f (get_or t.uses n 0 - 1) 0 other
      ∙ omega (arith, ap one_if (ne_eqb n f (λ e. other (sym e))))
]
  where
    is : f ≡ n → (n == f) ≡ true
    is e = grind (arith, nat_tests)

freed : (owners : List Owner) (n : ℕ) → get_or (set owners n Free) n Free ≡ Free
freed [] n = refl
freed (o ∷ owners) zero = refl
freed (o ∷ owners) (suc n) = freed owners n

-- a frame is Free once none of its uses is left, and else keeps its owner
less-owner : (t : Store) (n f : ℕ)
    → owner_at (with_less t n) f ≡ cond ((n == f) && (uses_at t f == 1)) Free (owner_at t f)
less-owner t n f = elim (cases_eq f n) [
  | inl same ↦ ap (λ k. get_or (with_less t n).owners k Free) same ∙ at (get_or t.uses n 0 == 1)
      ∙ ap (λ k. cond (get_or t.uses k 0 == 1) Free (get_or t.owners k Free)) (sym same)
      ∙ ap (λ (b : Bool). cond (b && (uses_at t f == 1)) Free (owner_at t f)) (sym (is same))
  | inr other ↦ off (get_or t.uses n 0 == 1) other
      ∙ ap (λ (b : Bool). cond (b && (uses_at t f == 1)) Free (owner_at t f))
      (sym (ne_eqb n f (λ e. other (sym e))))
]
  where
    is : f ≡ n → (n == f) ≡ true
    is e = grind (arith, nat_tests)

    at : (b : Bool) → get_or (cond b (set t.owners n Free) t.owners) n Free
        ≡ cond b Free (get_or t.owners n Free)
    at true = freed t.owners n
    at false = refl

    off : (b : Bool) → f ≢ n
        → get_or (cond b (set t.owners n Free) t.owners) f Free ≡ get_or t.owners f Free
    off true d = get_or-set_other t.owners n f Free Free d
    off false d = refl

zeroed_at : (pages : List (Option (List ℕ))) (n : ℕ)
    → get_or (set pages n (zeroed (get_or pages n None))) n None ≡ zeroed (get_or pages n None)
zeroed_at [] n = refl
zeroed_at (p ∷ pages) zero = refl
zeroed_at (p ∷ pages) (suc n) = zeroed_at pages n

-- a frame is zero once none of its uses is left, and else keeps its page
less-page : (t : Store) (n f : ℕ)
    → page_at (with_less t n) f
    ≡ cond ((n == f) && (uses_at t f == 1)) (zeroed (page_at t f)) (page_at t f)
less-page t n f = elim (cases_eq f n) [
  | inl same ↦ ap (λ k. get_or (with_less t n).pages k None) same ∙ at (get_or t.uses n 0 == 1)
      ∙ ap (λ k. cond (get_or t.uses k 0 == 1) (zeroed (page_at t k)) (page_at t k)) (sym same)
      ∙ ap (λ (b : Bool). cond (b && (uses_at t f == 1)) (zeroed (page_at t f)) (page_at t f))
      (sym (is same))
  | inr other ↦ off (get_or t.uses n 0 == 1) other
      ∙ ap (λ (b : Bool). cond (b && (uses_at t f == 1)) (zeroed (page_at t f)) (page_at t f))
      (sym (ne_eqb n f (λ e. other (sym e))))
]
  where
    is : f ≡ n → (n == f) ≡ true
    is e = grind (arith, nat_tests)

    at : (b : Bool) → get_or (cond b (set t.pages n (zeroed (page_at t n))) t.pages) n None
        ≡ cond b (zeroed (page_at t n)) (page_at t n)
    at true = zeroed_at t.pages n
    at false = refl

    off : (b : Bool) → f ≢ n
        → get_or (cond b (set t.pages n (zeroed (page_at t n))) t.pages) f None ≡ page_at t f
    off true d = get_or-set_other t.pages n f (zeroed (page_at t n)) None d
    off false d = refl

cleared_twice : (p : Option (List ℕ)) → zeroed (zeroed p) ≡ zeroed p
cleared_twice None = refl
cleared_twice (Some page) = refl

cleared_again : (b : Bool) (p : Option (List ℕ)) → zeroed (cond b (zeroed p) p) ≡ zeroed p
cleared_again true p = cleared_twice p
cleared_again false p = refl

-- Whether the uses are used up, by numbers alone: u uses, k of them gone already, and one more
-- where b
both-last : {A : Type 0} (last o : A) (u k : ℕ) (b : Bool) → k + one_if b ≤ u
    → cond (b && (u - k == 1)) last (cond (nat_lt 0 k && (u == k)) last o)
    ≡ cond (nat_lt 0 (k + one_if b) && (u == k + one_if b)) last o
both-last last o u k true h = by (cases_eq u (k + 1))
  where
    yes : (x y : ℕ) → x ≡ y → (x == y) ≡ true
    yes x y e = grind (arith, nat_tests)

    more : nat_lt 0 (k + 1) ≡ true
    more = grind (arith, nat_tests)

    never : (x : Bool) → cond (x && false) last o ≡ o
    never true = refl
    never false = refl

    by : (u ≡ k + 1) ⊎ (u ≢ k + 1)
        → cond (true && (u - k == 1)) last (cond (nat_lt 0 k && (u == k)) last o)
        ≡ cond (nat_lt 0 (k + 1) && (u == k + 1)) last o
    by (inl same) = ap (λ (x : Bool). cond x last (cond (nat_lt 0 k && (u == k)) last o))
        (yes (u - k) 1 (omega arith))
        ∙ sym (ap (λ (x : Bool). cond (x && (u == k + 1)) last o) more
        ∙ ap (λ (x : Bool). cond x last o) (yes u (k + 1) same))
    by (inr other) =
        let not_last : (u - k == 1) ≡ false = ne_eqb (u - k) 1 (λ e. other (omega arith)) in
        let not_all : (u == k) ≡ false = ne_eqb u k (λ e. absurd (omega arith)) in
        ap (λ (x : Bool). cond x last (cond (nat_lt 0 k && (u == k)) last o)) not_last
        ∙ ap (λ (x : Bool). cond (nat_lt 0 k && x) last o) not_all ∙ never (nat_lt 0 k)
        ∙ sym (ap (λ (x : Bool). cond (x && (u == k + 1)) last o) more
        ∙ ap (λ (x : Bool). cond x last o) (ne_eqb u (k + 1) other))
both-last last o u k false h =
    let same : k ≡ k + 0 = omega arith in
    ap (λ n. cond (nat_lt 0 n && (u == n)) last o) same

-- one entry more is gone
dropped-more : (s t new : Store) (gone more : List (ℕ × Entry)) (e : ℕ × Entry)
    → AreUsed more s → IsDropped gone s t → IsOneMore gone e more
    → new ≡ with_less t e.1.frame → e.1.frame < length t.uses → IsDropped more s new
dropped-more s t new gone more e used dropped one is within = record {
  page_count = ap (λ (x : Store). length x.pages) is ∙ page_lengths (uses_at t e.1.frame == 1)
      ∙ dropped.page_count;
  pages = λ f.
      let few : entries_of gone f + one_if (e.1.frame == f) ≤ uses_at s f =
      omega (arith, used f, one f) in
      let last : Bool = (e.1.frame == f) && (uses_at s f - entries_of gone f == 1) in
      ap (λ x. page_at x f) is ∙ less-page t e.1.frame f
      ∙ ap (λ (u : ℕ). cond ((e.1.frame == f) && (u == 1)) (zeroed (page_at t f)) (page_at t f))
      (dropped.uses f)
      ∙ ap (λ p. cond last (zeroed p) p) (dropped.pages f)
      ∙ ap (λ p. cond last p (page_without gone s f))
      (cleared_again (is_last gone s f) (page_at s f))
      ∙ both-last (zeroed (page_at s f)) (page_at s f) (uses_at s f) (entries_of gone f)
      (e.1.frame == f) few
      ∙ ap (λ n. cond (nat_lt 0 n && (uses_at s f == n)) (zeroed (page_at s f)) (page_at s f))
      (sym (one f));
  frames = record {
    count = ap (λ (x : Store). length x.owners) is ∙ lengths (uses_at t e.1.frame == 1)
        ∙ dropped.frames.count;
    marked = ap (λ (x : Store). x.marked) is ∙ dropped.frames.marked;
  };
  uses = λ f. ap (λ x. uses_at x f) is ∙ less-uses t e.1.frame f within
      ∙ ap (λ u. u - one_if (e.1.frame == f)) (dropped.uses f)
      ∙ omega (arith, one f);
  owners = λ f.
      let few : entries_of gone f + one_if (e.1.frame == f) ≤ uses_at s f =
      omega (arith, used f, one f) in
      ap (λ x. owner_at x f) is ∙ less-owner t e.1.frame f
      ∙ ap (λ (u : ℕ). cond ((e.1.frame == f) && (u == 1)) Free (owner_at t f)) (dropped.uses f)
      ∙ ap (λ o. cond ((e.1.frame == f) && (uses_at s f - entries_of gone f == 1)) Free o)
      (dropped.owners f)
      ∙ both-last Free (owner_at s f) (uses_at s f) (entries_of gone f) (e.1.frame == f) few
      ∙ ap (λ n. cond (nat_lt 0 n && (uses_at s f == n)) Free (owner_at s f)) (sym (one f));
}
  where
    page_lengths : (b : Bool)
        → length (cond b (set t.pages e.1.frame (zeroed (page_at t e.1.frame))) t.pages)
        ≡ length t.pages
    page_lengths true = length-set t.pages e.1.frame (zeroed (page_at t e.1.frame))
    page_lengths false = refl

    lengths : (b : Bool) → length (cond b (set t.owners e.1.frame Free) t.owners) ≡ length t.owners
    lengths true = length-set t.owners e.1.frame Free
    lengths false = refl

-- ---- a space's entries in their order

-- all of them
module _ (s t : Store) (es : List (ℕ × Entry)) (i : ℕ) (e : ℕ × Entry) (used : AreUsed es s)
    (dropped : IsDropped (take i es) s t) (h : i < length es) (here : slice_get es i ≡ Some e) where
  one : IsOneMore (take i es) e (take (i + 1) es)
  one = one-taken es i e h (get_or_from_slice_get es i e no_entry here)

  pub next-used : 0 < uses_at t e.1.frame
  next-used =
      still-used s t (take i es) (take (i + 1) es) e (used-front s es (i + 1) used) dropped one

  pub next-dropped : (new : Store) → new ≡ with_less t e.1.frame
      → IsDropped (take (i + 1) es) s new
  next-dropped new is =
      dropped-more s t new (take i es) (take (i + 1) es) e (used-front s es (i + 1) used) dropped
      one is (used-within t.uses e.1.frame next-used)

-- ---- pages

-- all are home as before
pub home-dropped : (gone : List (ℕ × Entry)) (s new : Store) → IsDropped gone s new
    → All IsSome s.pages → All IsSome new.pages
home-dropped gone s new dropped home k d lt =
    let within : k < length s.pages = omega (arith, dropped.page_count, lt) in
    ap is_some (same_default new.pages k d None lt ∙ dropped.pages k)
    ∙ either (is_last gone s k) (page_at s k) ∙ home k None within
  where
    same_default : (xs : List (Option (List ℕ))) (i : ℕ) (a b : Option (List ℕ)) → i < length xs
        → get_or xs i a ≡ get_or xs i b
    same_default [] i a b h = absurd (omega arith)
    same_default (x ∷ xs) zero a b h = refl
    same_default (x ∷ xs) (suc i) a b h = same_default xs i a b (omega arith)

    either : (b : Bool) (p : Option (List ℕ)) → is_some (cond b (zeroed p) p) ≡ is_some p
    either true None = refl
    either true (Some page) = refl
    either false p = refl

-- none of them
pub none-dropped : (s : Store) → IsDropped [] s s
none-dropped s = record {
  page_count = refl;
  pages = λ f. refl;
  frames = frames-same s;
  uses = λ f. omega arith;
  owners = λ f. refl;
}

-- those that pass a test
module _ (s t : Store) (test : ℕ × Entry → Bool) (es : List (ℕ × Entry)) (i : ℕ) (e : ℕ × Entry)
    (used : AreUsed es s) (dropped : IsDropped (filter test (take i es)) s t) (h : i < length es)
    (here : slice_get es i ≡ Some e) where
  at : get_or es i no_entry ≡ e
  at = get_or_from_slice_get es i e no_entry here

  module _ (passes : test e ≡ true) where
    still : AreUsed (filter test (take (i + 1) es)) s
    still = used-passed s test (take (i + 1) es) (used-front s es (i + 1) used)

    pub passed-used : 0 < uses_at t e.1.frame
    passed-used =
        still-used s t (filter test (take i es)) (filter test (take (i + 1) es)) e still dropped
        (one-passed test es i e h at passes)

    pub passed-dropped : (new : Store) → new ≡ with_less t e.1.frame
        → IsDropped (filter test (take (i + 1) es)) s new
    passed-dropped new is =
        dropped-more s t new (filter test (take i es)) (filter test (take (i + 1) es)) e still
        dropped (one-passed test es i e h at passes) is (used-within t.uses e.1.frame passed-used)
