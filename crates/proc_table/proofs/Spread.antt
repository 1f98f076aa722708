-- Threads that live in rising number, what a search finds among them, and the list by number that
-- is spread from them.
use Rattle.std.proofs.Common.{◌≡◌, ◌≢◌, ℕ, zero, suc, ◌+◌, ◌<◌, ◌≤◌, Bool, true, false, cond, List}
use Rattle.std.proofs.Common.{[], ◌∷◌, ◌++◌, map, length, get_or, set, slice_get, Option, Some}
use Rattle.std.proofs.Common.{None, option_map, Result, Ok, Err, IfOk, IfErr, refl, sym, ap, ◌∙◌}
use Rattle.std.proofs.Common.{subst, arith, inl, inr}
use Rattle.std.specs.Prelude.{◌==◌, nat_lt, not, find, filter, is_some}
use Rattle.std.specs.List.{remove}
use Rattle.std.specs.List.Sorted.{IsSearchInRange, IsBinarySearchResult, IsNonDecreasingBy}
use Rattle.std.specs.Ordering.{nat_cmp, ordering_index}
use Rattle.std.proofs.lemmas.Cmp.{ranked}
use Rattle.std.proofs.lemmas.List.Sorted.{IsNonDecreasingBy-from_default}
use Rattle.std.proofs.lemmas.Bool.{cases_order}
use Rattle.std.proofs.lemmas.Bool.Decides.{nat_tests}
use Rattle.dos_world.specs.Numbered.{numbered, changed, changed_at, places_from, numbers_of, run_of}
use Rattle.dos_world.specs.World.{Thread, flat, first_of}
use Rattle.dos_world.specs.Kernel.{unless_of}
use Rattle.proc_table.specs.Spread.{live_in, spread, AreRising, AreInOrder, no_thread_entry}
use Rattle.proc_table.specs.Spread.{living_from, thread_number_at}
use Rattle.proc_table.specs.Spread.{IsThreadAt, IsGapForThread, IsGapAbove}

-- ---- numbers that rise

-- bounds that are further apart
pub rising_wider : (low high lower higher : ℕ) (live : List (ℕ × Thread)) → lower ≤ low
    → high ≤ higher → AreRising low high live → AreRising lower higher live
rising_wider low high lower higher [] l h r = tt
rising_wider low high lower higher (e ∷ live) l h r = (
  omega (arith, r.0),
  omega (arith, r.1),
  rising_wider (suc e.0) high (suc e.0) higher live
      (omega arith) h r.2,
)

pub from_low : (low high : ℕ) (live : List (ℕ × Thread)) (i : ℕ) → AreRising low high live
    → i < length live → low ≤ thread_number_at live i
from_low low high [] i r h = absurd (omega arith)
from_low low high (e ∷ live) zero r h = r.0
from_low low high (e ∷ live) (suc i) r h =
    omega (arith, r.0, from_low (suc e.0) high live i r.2 (omega arith))

pub rises : (low high : ℕ) (live : List (ℕ × Thread)) (i j : ℕ) → AreRising low high live → i < j
    → j < length live → thread_number_at live i < thread_number_at live j
rises low high [] i j r lt h = absurd (omega arith)
rises low high (e ∷ live) i zero r lt h = absurd (omega arith)
rises low high (e ∷ live) zero (suc j) r lt h =
    omega (arith, from_low (suc e.0) high live j r.2 (omega arith))
rises low high (e ∷ live) (suc i) (suc j) r lt h =
    rises (suc e.0) high live i j r.2 (omega arith) (omega arith)

-- ---- searching

module _ (live : List (ℕ × Thread)) (order : AreInOrder live) (t : ℕ) where
  comparisons_rise : IsNonDecreasingBy (λ e. ordering_index (nat_cmp e.0 t)) live
  comparisons_rise = IsNonDecreasingBy-from_default
      (λ e. ordering_index (nat_cmp e.0 t)) live no_thread_entry (λ i j le within.
      let numbers_rise : thread_number_at live i ≤ thread_number_at live j =
      grind (
        arith,
        rises 1 order.0 live i j order.1,
        λ (same : i ≡ j). ap (thread_number_at live) same,
      ) in
      grind (arith, nat_tests))

  -- a binary search by number ends at the thread, or at the gap for it
  pub searched : (r : Result ℕ ℕ) → IsSearchInRange r (length live)
      → IsBinarySearchResult (λ e. nat_cmp e.0 t) live r
      → record { found : IfOk r (IsThreadAt live t); gap : IfErr r (IsGapForThread live t) }
  searched (Ok place) within equal =
      record {
        found = record { within = within; is = ranked _ t _ (sym (equal no_thread_entry)) };
        gap =
            tt;
      }
  searched (Err place) within parted = record {
    found = tt;
    gap = record {
      within = within;
      lower = λ j lt. ranked _ t _
          (sym ((parted comparisons_rise).0 j no_thread_entry (omega arith) lt));
      higher = λ j le lt. ranked _ t _ (sym ((parted comparisons_rise).1 j no_thread_entry le lt));
    };
  }

-- ---- looking up

same_test : (n t : ℕ) → n ≡ t → (n == t) ≡ true
same_test n t e = grind (arith, nat_tests)

other_test : (n t : ℕ) → n ≢ t → (n == t) ≡ false
other_test n t e = grind (arith, nat_tests)

abbrev pub IsNowhere : List (ℕ × Thread) → ℕ → Type 0
IsNowhere live t = (i : ℕ) → i < length live → thread_number_at live i ≢ t

pub in_nowhere : (live : List (ℕ × Thread)) (t : ℕ) → IsNowhere live t → live_in live t ≡ None
in_nowhere [] t none = refl
in_nowhere (e ∷ live) t none =
    rw (other_test e.0 t (none 0 (omega arith)))
    (in_nowhere live t (λ i h. none (suc i) (omega arith)))

pub in_gap : (live : List (ℕ × Thread)) (t place : ℕ) → IsGapForThread live t place
    → live_in live t ≡ None
in_gap live t place gap = in_nowhere live t (λ i h e. grind (arith, gap.lower i, gap.higher i))

pub in_below : (low high t : ℕ) (live : List (ℕ × Thread)) → AreRising low high live → t < low
    → live_in live t ≡ None
in_below low high t live r h =
    in_nowhere live t (λ i l e. omega (arith, from_low low high live i r l))

pub in_above : (low high t : ℕ) (live : List (ℕ × Thread)) → AreRising low high live → high ≤ t
    → live_in live t ≡ None
in_above low high t [] r h = refl
in_above low high t (e ∷ live) r h =
    rw (other_test e.0 t (λ s. omega (arith, r.1))) (in_above (suc e.0) high t live r.2 h)

pub in_at : (low high : ℕ) (live : List (ℕ × Thread)) (t place : ℕ) → AreRising low high live
    → IsThreadAt live t place → live_in live t ≡ Some (get_or live place no_thread_entry).1
in_at low high [] t place r at = absurd (omega (arith, at.within))
in_at low high (e ∷ live) t zero r at = rw (same_test e.0 t at.is) refl
in_at low high (e ∷ live) t (suc i) r at =
    let rest : IsThreadAt live t i = record { within = omega (arith, at.within); is = at.is } in
    rw (other_test e.0 t (λ s.
    omega (arith, from_low (suc e.0) high live i r.2 rest.within, rest.is)))
    (in_at (suc e.0) high live t i r.2 rest)

-- ---- the list by number

from_length : (live : List (ℕ × Thread)) (n count : ℕ)
    → length (map (live_in live) (run_of n count)) ≡ count
from_length live n zero = refl
from_length live n (suc count) = omega (arith, from_length live (suc n) count)

pub spread_length : (live : List (ℕ × Thread)) (given : ℕ) → length (spread live given) ≡ given
unfolding spread
spread_length live given = from_length live 1 given

pub spread_none : spread [] 0 ≡ []
unfolding spread
spread_none = refl

from_get : (live : List (ℕ × Thread)) (n count i : ℕ) → i < count
    → slice_get (map (live_in live) (run_of n count)) i ≡ Some (live_in live (n + i))
from_get live n zero i h = absurd (omega arith)
from_get live n (suc count) zero h = ap (λ k. Some (live_in live k)) (omega arith)
from_get live n (suc count) (suc i) h = from_get live (suc n) count i (omega arith)
    ∙ ap (λ k. Some (live_in live k)) (omega arith)

from_get_none : (live : List (ℕ × Thread)) (n count i : ℕ) → count ≤ i
    → slice_get (map (live_in live) (run_of n count)) i ≡ None
from_get_none live n zero i h = refl
from_get_none live n (suc count) zero h = absurd (omega arith)
from_get_none live n (suc count) (suc i) h = from_get_none live (suc n) count i (omega arith)

-- the thread of a number in the list is the one that lives
pub spread_at : (live : List (ℕ × Thread)) (given t : ℕ) → AreRising 1 (given + 1) live
    → flat (numbered (spread live given) t) ≡ live_in live t
unfolding spread
spread_at live given zero r = sym (in_below 1 (given + 1) 0 live r (omega arith))
spread_at live given (suc i) r =
    elim (nat_lt i given) as (λ b. nat_lt i given ≡ b
    → flat (slice_get (map (live_in live) (run_of 1 given)) i) ≡ live_in live (suc i)) [
      | true ↦ λ h. ap flat (from_get live 1 given i (grind (arith, nat_tests)))
          ∙ ap (live_in live) (omega arith)
      | false ↦ λ h. ap flat (from_get_none live 1 given i (grind (arith, nat_tests)))
          ∙ sym (in_above 1 (given + 1) (suc i) live r (grind (arith, nat_tests)))
    ] refl

from_same : (old new : List (ℕ × Thread)) (n count : ℕ)
    → ((m : ℕ) → n ≤ m → live_in new m ≡ live_in old m)
    → map (live_in new) (run_of n count) ≡ map (live_in old) (run_of n count)
from_same old new n zero same = refl
from_same old new n (suc count) same =
    ap (λ x. x ∷ map (live_in new) (run_of (suc n) count)) (same n (omega arith))
    ∙ ap (λ xs. live_in old n ∷ xs) (from_same old new (suc n) count (λ m h. same m (omega arith)))

from_changed : (f : Option Thread → Option Thread) (old new : List (ℕ × Thread)) (t n count i : ℕ)
    → n + i ≡ t → ((m : ℕ) → m ≢ t → live_in new m ≡ live_in old m)
    → live_in new t ≡ f (live_in old t)
    → map (live_in new) (run_of n count) ≡ changed_at f (map (live_in old) (run_of n count)) i
from_changed f old new t n zero i e others here = refl
from_changed f old new t n (suc count) zero e others here =
    let is : n ≡ t = omega arith in
    ap (λ x. x ∷ map (live_in new) (run_of (suc n) count))
    (ap (live_in new) is ∙ here ∙ ap (λ k. f (live_in old k)) (sym is))
    ∙ ap (λ xs. f (live_in old n) ∷ xs)
    (from_same old new (suc n) count (λ m h. others m (λ s. omega arith)))
from_changed f old new t n (suc count) (suc i) e others here =
    ap (λ x. x ∷ map (live_in new) (run_of (suc n) count)) (others n (λ s. omega arith))
    ∙ ap (λ xs. live_in old n ∷ xs)
    (from_changed f old new t (suc n) count i (omega arith) others here)

-- where one thread changes, so does the list
pub spread_changed : (f : Option Thread → Option Thread) (old new : List (ℕ × Thread)) (given t : ℕ)
    → 1 ≤ t → ((m : ℕ) → m ≢ t → live_in new m ≡ live_in old m) → live_in new t ≡ f (live_in old t)
    → spread new given ≡ changed f (spread old given) t
unfolding spread
spread_changed f old new given zero h others here = absurd (omega arith)
spread_changed f old new given (suc i) h others here =
    from_changed f old new (suc i) 1 given i (omega arith) others here

from_mapped : (f : Option Thread → Option Thread) (old new : List (ℕ × Thread)) (n count : ℕ)
    → ((m : ℕ) → live_in new m ≡ f (live_in old m))
    → map (live_in new) (run_of n count) ≡ map f (map (live_in old) (run_of n count))
from_mapped f old new n zero same = refl
from_mapped f old new n (suc count) same =
    ap (λ x. x ∷ map (live_in new) (run_of (suc n) count)) (same n)
    ∙ ap (λ xs. f (live_in old n) ∷ xs) (from_mapped f old new (suc n) count same)

-- where each thread changes, so does the list
pub spread_mapped : (f : Option Thread → Option Thread) (old new : List (ℕ × Thread)) (given : ℕ)
    → ((m : ℕ) → live_in new m ≡ f (live_in old m)) → spread new given ≡ map f (spread old given)
unfolding spread
spread_mapped f old new given same = from_mapped f old new 1 given same

from_grown : (old new : List (ℕ × Thread)) (x : Thread) (t n count : ℕ) → n + count ≡ t
    → ((m : ℕ) → m < t → live_in new m ≡ live_in old m) → live_in new t ≡ Some x
    → map (live_in new) (run_of n (suc count)) ≡ map (live_in old) (run_of n count) ++ Some x ∷ []
from_grown old new x t n zero e others here = let is : n ≡ t = omega arith in
    ap (λ y. y ∷ []) (ap (live_in new) is ∙ here)
from_grown old new x t n (suc count) e others here =
    ap (λ y. y ∷ map (live_in new) (run_of (suc n) (suc count))) (others n (omega arith))
    ∙ ap (λ xs. live_in old n ∷ xs) (from_grown old new x t (suc n) count (omega arith) others here)

in_pushed : (live : List (ℕ × Thread)) (given n : ℕ) (x : Thread) → n ≤ given
    → live_in (live ++ (given + 1, x) ∷ []) n ≡ live_in live n
in_pushed [] given n x h = rw (other_test (given + 1) n (λ s. omega arith)) refl
in_pushed (e ∷ live) given n x h =
    elim (e.0 == n) as (λ b. option_map (λ (k : ℕ × Thread). k.1)
    (cond b (Some e) (find (λ k. k.0 == n) (live ++ (given + 1, x) ∷ [])))
    ≡ option_map (λ (k : ℕ × Thread). k.1)
    (cond b (Some e) (find (λ k. k.0 == n) live))) [
      | true ↦ refl
      | false ↦ in_pushed live given n x h
    ]

in_last : (low : ℕ) (live : List (ℕ × Thread)) (given : ℕ) (x : Thread)
    → AreRising low (given + 1) live → live_in (live ++ (given + 1, x) ∷ []) (given + 1) ≡ Some x
in_last low [] given x r = rw (same_test (given + 1) (given + 1) refl) refl
in_last low (e ∷ live) given x r =
    rw (other_test e.0 (given + 1) (λ s. omega (arith, r.1))) (in_last (suc e.0) live given x r.2)

-- a thread with the next number is the last of the list
pub spread_pushed : (live : List (ℕ × Thread)) (given : ℕ) (x : Thread)
    → AreRising 1 (given + 1) live
    → spread (live ++ (given + 1, x) ∷ []) (given + 1) ≡ spread live given ++ Some x ∷ []
unfolding spread
spread_pushed live given x r =
    let one : given + 1 ≡ suc given = omega arith in
    ap (λ n. map (live_in (live ++ (given + 1, x) ∷ [])) (run_of 1 n)) one
    ∙ from_grown live (live ++ (given + 1, x) ∷ []) x (given + 1) 1 given (omega arith)
    (λ m h. in_pushed live given m x (omega arith)) (in_last 1 live given x r)

-- ---- the numbers of those that pass a test

kept_first : (test : Option Thread → Bool) (x : ℕ × Thread) (live : List (ℕ × Thread)) (b : Bool)
    (n : ℕ) (ns : List ℕ) → x.0 ≡ n → ns ≡ map (λ e. e.0) (filter (λ e. test (Some e.1)) live)
    → cond b (n ∷ ns) ns ≡ map (λ (e : ℕ × Thread). e.0)
    (cond b (x ∷ filter (λ e. test (Some e.1)) live) (filter (λ e. test (Some e.1)) live))
kept_first test x live true n ns is same = cc
kept_first test x live false n ns is same = same

numbers_from : (test : Option Thread → Bool) (live : List (ℕ × Thread)) (n count high : ℕ)
    → n + count ≡ high → test None ≡ false → AreRising n high live
    → places_from n test (map (live_in live) (run_of n count))
    ≡ map (λ e. e.0) (filter (λ e. test (Some e.1)) live)
numbers_from test [] n zero high e none r = refl
numbers_from test (x ∷ live) n zero high e none r = absurd (omega (arith, r.0, r.1))
numbers_from test [] n (suc count) high e none r =
    rw none (numbers_from test [] (suc n) count high (omega arith) none tt)
numbers_from test (x ∷ live) n (suc count) high e none r =
    elim (x.0 == n) as (λ b. (x.0 == n) ≡ b
    → places_from n test (map (live_in (x ∷ live)) (run_of n (suc count)))
    ≡ map (λ k. k.0) (filter (λ k. test (Some k.1)) (x ∷ live))) [
      | true ↦ λ h.
          let is : x.0 ≡ n = grind (arith, nat_tests) in
          let rest : AreRising (suc n) high live =
          subst (λ k. AreRising (suc k) high live) is r.2 in
          let same = from_same live (x ∷ live) (suc n) count
          (λ m l. rw (other_test x.0 m (λ s. omega arith)) refl) in
          rw h (kept_first test x live (test (Some x.1)) n _ is
          (ap (places_from (suc n) test) same
          ∙ numbers_from test live (suc n) count high (omega arith) none rest))
      | false ↦ λ h.
          let apart : x.0 ≢ n = λ s. other_is_false h s in
          let later : AreRising (suc n) high (x ∷ live) = (omega (arith, r.0), r.1, r.2) in
          rw (in_below (suc n) high n (x ∷ live) later (omega arith), none)
          (numbers_from test (x ∷ live) (suc n) count high (omega arith) none later)
    ] refl
  where
    other_is_false : (x.0 == n) ≡ false → x.0 ≡ n → ⊥
    other_is_false h s = grind (arith, nat_tests)

-- the numbers of the threads that pass a test, which no thread that is gone does
pub numbers_spread : (test : Option Thread → Bool) (live : List (ℕ × Thread)) (given : ℕ)
    → test None ≡ false → AreRising 1 (given + 1) live
    → numbers_of test (spread live given) ≡ map (λ e. e.0) (filter (λ e. test (Some e.1)) live)
unfolding spread
numbers_spread test live given none r =
    numbers_from test live 1 given (given + 1) (omega arith) none r

-- ---- a thread written in its place

pub rising_set : (low high : ℕ) (live : List (ℕ × Thread)) (place : ℕ) (y : ℕ × Thread)
    → AreRising low high live → place < length live → y.0 ≡ thread_number_at live place
    → AreRising low high (set live place y)
rising_set low high [] place y r h e = absurd (omega arith)
rising_set low high (x ∷ live) zero y r h e =
    (omega (arith, r.0), omega (arith, r.1), subst (λ k. AreRising (suc k) high live) (sym e) r.2)
rising_set low high (x ∷ live) (suc i) y r h e =
    (r.0, r.1, rising_set (suc x.0) high live i y r.2 (omega arith) e)

pub in_set_here : (low high : ℕ) (live : List (ℕ × Thread)) (t place : ℕ) (y : ℕ × Thread)
    → AreRising low high live → IsThreadAt live t place → y.0 ≡ t
    → live_in (set live place y) t ≡ Some y.1
in_set_here low high [] t place y r at e = absurd (omega (arith, at.within))
in_set_here low high (x ∷ live) t zero y r at e = rw (same_test y.0 t e) refl
in_set_here low high (x ∷ live) t (suc i) y r at e =
    let rest : IsThreadAt live t i = record { within = omega (arith, at.within); is = at.is } in
    rw (other_test x.0 t (λ s.
    omega (arith, from_low (suc x.0) high live i r.2 rest.within, rest.is)))
    (in_set_here (suc x.0) high live t i y r.2 rest e)

-- the first entry aside, both lists find the same
in_rest : (x : ℕ × Thread) (new old : List (ℕ × Thread)) (m : ℕ) → live_in new m ≡ live_in old m
    → live_in (x ∷ new) m ≡ live_in (x ∷ old) m
in_rest x new old m same = by (x.0 == m)
  where
    by : (b : Bool) → option_map (λ (e : ℕ × Thread). e.1)
        (cond b (Some x) (find (λ e. e.0 == m) new)) ≡ option_map (λ (e : ℕ × Thread). e.1)
        (cond b (Some x) (find (λ e. e.0 == m) old))
    by true = refl
    by false = same

pub in_set_other : (live : List (ℕ × Thread)) (t place m : ℕ) (y : ℕ × Thread)
    → IsThreadAt live t place
    → y.0 ≡ t → m ≢ t → live_in (set live place y) m ≡ live_in live m
in_set_other [] t place m y at e apart = absurd (omega (arith, at.within))
in_set_other (x ∷ live) t zero m y at e apart =
    rw (other_test y.0 m (λ s. apart (sym s ∙ e)), other_test x.0 m (λ s. apart (sym s ∙ at.is)))
    refl
in_set_other (x ∷ live) t (suc i) m y at e apart =
    let rest : IsThreadAt live t i = record { within = omega (arith, at.within); is = at.is } in
    in_rest x (set live i y) live m (in_set_other live t i m y rest e apart)

-- ---- threads that come and go

pub rising_push : (low high : ℕ) (live : List (ℕ × Thread)) (x : Thread) → low ≤ high
    → AreRising low high live → AreRising low (high + 1) (live ++ (high, x) ∷ [])
rising_push low high [] x h r = (h, omega arith, tt)
rising_push low high (e ∷ live) x h r =
    (r.0, omega (arith, r.1), rising_push (suc e.0) high live x (omega (arith, r.1)) r.2)

pub rising_remove : (low high : ℕ) (live : List (ℕ × Thread)) (place : ℕ) → place < length live
    → AreRising low high live → AreRising low high (remove live place)
rising_remove low high [] place h r = absurd (omega arith)
rising_remove low high (e ∷ live) zero h r =
    rising_wider (suc e.0) high low high live (omega (arith, r.0)) (omega arith) r.2
rising_remove low high (e ∷ live) (suc i) h r =
    (r.0, r.1, rising_remove (suc e.0) high live i (omega arith) r.2)

pub rising_filter : (keep : ℕ × Thread → Bool) (low high : ℕ) (live : List (ℕ × Thread))
    → AreRising low high live → AreRising low high (filter keep live)
rising_filter keep low high [] r = tt
rising_filter keep low high (e ∷ live) r =
    elim (keep e) as (λ b. AreRising low high (cond b (e ∷ filter keep live) (filter keep live))) [
      | true ↦ (r.0, r.1, rising_filter keep (suc e.0) high live r.2)
      | false ↦ rising_wider (suc e.0) high low high (filter keep live) (omega (arith, r.0))
          (omega arith) (rising_filter keep (suc e.0) high live r.2)
    ]

pub in_removed_here : (low high : ℕ) (live : List (ℕ × Thread)) (t place : ℕ)
    → AreRising low high live → IsThreadAt live t place → live_in (remove live place) t ≡ None
in_removed_here low high [] t place r at = absurd (omega (arith, at.within))
in_removed_here low high (e ∷ live) t zero r at =
    in_below (suc e.0) high t live r.2 (omega (arith, at.is))
in_removed_here low high (e ∷ live) t (suc i) r at =
    let rest : IsThreadAt live t i = record { within = omega (arith, at.within); is = at.is } in
    rw (other_test e.0 t (λ s.
    omega (arith, from_low (suc e.0) high live i r.2 rest.within, rest.is)))
    (in_removed_here (suc e.0) high live t i r.2 rest)

pub in_removed_other : (live : List (ℕ × Thread)) (t place m : ℕ) → IsThreadAt live t place → m ≢ t
    → live_in (remove live place) m ≡ live_in live m
in_removed_other [] t place m at apart = absurd (omega (arith, at.within))
in_removed_other (e ∷ live) t zero m at apart =
    rw (other_test e.0 m (λ s. apart (sym s ∙ at.is))) refl
in_removed_other (e ∷ live) t (suc i) m at apart =
    let rest : IsThreadAt live t i = record { within = omega (arith, at.within); is = at.is } in
    in_rest e (remove live i) live m (in_removed_other live t i m rest apart)

pub in_filtered : (p low high : ℕ) (live : List (ℕ × Thread)) (m : ℕ) → AreRising low high live
    → live_in (filter (λ e. not (e.1.process == p)) live) m ≡ unless_of p (live_in live m)
in_filtered p low high [] m r = refl
in_filtered p low high (e ∷ live) m r =
    elim (e.1.process == p) as (λ b. (e.1.process == p) ≡ b
    → live_in (cond (not b) (e ∷ filter (λ e. not (e.1.process == p)) live)
    (filter (λ e. not (e.1.process == p)) live)) m
    ≡ unless_of p (live_in (e ∷ live) m)) [
      | true ↦ λ h. elim (e.0 == m) as (λ b. (e.0 == m) ≡ b
          → live_in (filter (λ e. not (e.1.process == p)) live) m
          ≡ unless_of p (option_map (λ (k : ℕ × Thread). k.1)
          (cond b (Some e) (find (λ k. k.0 == m) live)))) [
            | true ↦ λ is. rw h
                (in_below (suc e.0) high m (filter (λ e. not (e.1.process == p)) live)
                (rising_filter (λ e. not (e.1.process == p)) (suc e.0) high live r.2)
                (grind (arith, nat_tests)))
            | false ↦ λ is. in_filtered p (suc e.0) high live m r.2
          ] refl
      | false ↦ λ h. elim (e.0 == m) as (λ b. option_map (λ (k : ℕ × Thread). k.1)
          (cond b (Some e) (find (λ k. k.0 == m) (filter (λ e. not (e.1.process == p)) live)))
          ≡ unless_of p (option_map (λ (k : ℕ × Thread). k.1)
          (cond b (Some e) (find (λ k. k.0 == m) live)))) [
            | true ↦ rw h refl
            | false ↦ in_filtered p (suc e.0) high live m r.2
          ]
    ] refl

-- ---- the first and the next

pub first_found : (test : ℕ × Thread → Bool) (live : List (ℕ × Thread))
    → first_of (map (λ e. e.0) (filter test live)) ≡ option_map (λ e. e.0) (find test live)
first_found test [] = refl
first_found test (e ∷ live) =
    elim (test e) as (λ b.
    first_of (map (λ (k : ℕ × Thread). k.0)
    (cond b (e ∷ filter test live) (filter test live)))
    ≡ option_map (λ (k : ℕ × Thread). k.0) (cond b (Some e) (find test live))) [
      | true ↦ refl
      | false ↦ first_found test live
    ]

pub next_found : (live : List (ℕ × Thread)) (after place : ℕ) → IsGapAbove live after place
    → find (nat_lt after) (map (λ e. e.0) live) ≡ option_map (λ e. e.0) (slice_get live place)
next_found [] after place gap = refl
next_found (e ∷ live) after zero gap =
    rw (above after e.0 (gap.higher 0 (omega arith) (omega arith))) refl
  where
    above : (a b : ℕ) → a < b → nat_lt a b ≡ true
    above a b h = grind (arith, nat_tests)
next_found (e ∷ live) after (suc i) gap =
    let rest : IsGapAbove live after i =
    record {
      within = omega (arith, gap.within);
      lower =
          λ j lt. gap.lower (suc j) (omega arith);
      higher =
          λ j le lt. gap.higher (suc j) (omega arith) (omega arith);
    } in
    rw (not_above after e.0 (gap.lower 0 (omega arith))) (next_found live after i rest)
  where
    not_above : (a b : ℕ) → b ≤ a → nat_lt a b ≡ false
    not_above a b h = grind (arith, nat_tests)

pub kept_all : (live : List (ℕ × Thread)) → filter (λ e. is_some (Some e.1)) live ≡ live
kept_all [] = refl
kept_all (e ∷ live) = ap (λ es. e ∷ es) (kept_all live)

-- behind a thread begin those above its number
pub above_at : (high : ℕ) (live : List (ℕ × Thread)) (t place : ℕ) → AreRising 1 high live
    → IsThreadAt live t place → IsGapAbove live t (place + 1)
above_at high live t place r at = record {
  within = omega (arith, at.within);
  lower = λ i lt. grind (
    arith,
    at.is,
    at.within,
    rises 1 high live i place r,
    λ (same : i ≡ place). ap (thread_number_at live) same,
  );
  higher = λ i le within. omega (arith, at.is, rises 1 high live place i r (omega arith) within);
}

-- ---- those that live, of the list by number

-- of the numbers from n on, where the live ones from n on are these
living_run : (live es : List (ℕ × Thread)) (n count : ℕ) → AreRising n (n + count) es
    → ((t : ℕ) → n ≤ t → live_in live t ≡ live_in es t)
    → living_from n (map (live_in live) (run_of n count)) ≡ es
living_run live [] n zero r same = refl
living_run live (e ∷ es) n zero r same = absurd (omega (arith, r.0, r.1))
living_run live [] n (suc count) r same =
    ap (λ o. living_from n (o ∷ map (live_in live) (run_of (suc n) count))) (same n (omega arith))
    ∙ living_run live [] (suc n) count tt (λ t h. same t (omega arith))
living_run live (e ∷ es) n (suc count) r same =
    elim (cases_order e.0 n) [
      | inl is ↦
          ap (λ o. living_from n (o ∷ rest)) (same n (omega arith) ∙ found is)
          ∙ ap (λ m. (m, e.1) ∷ living_from (suc n) rest) (sym is)
          ∙ ap (λ xs. e ∷ xs)
          (living_run live es (suc n) count
          (rising_wider (suc e.0) (n + suc count) (suc n) (suc n + count) es (omega arith)
          (omega arith) r.2)
          (λ t h. same t (omega arith) ∙ other t (omega arith)))
      | inr (inl below) ↦ absurd (omega (arith, r.0))
      | inr (inr above) ↦
          ap (λ o. living_from n (o ∷ rest))
          (same n (omega arith)
          ∙ in_below (suc n) (suc n + count) n (e ∷ es) (later above) (omega arith))
          ∙ living_run live (e ∷ es) (suc n) count (later above) (λ t h. same t (omega arith))
    ]
  where
    rest : List (Option Thread)
    rest = map (live_in live) (run_of (suc n) count)

    found : e.0 ≡ n → live_in (e ∷ es) n ≡ Some e.1
    found is = rw (same_test e.0 n is) refl

    other : (t : ℕ) → e.0 < t → live_in (e ∷ es) t ≡ live_in es t
    other t h = rw (other_test e.0 t (λ s. omega arith)) refl

    later : n < e.0 → AreRising (suc n) (suc n + count) (e ∷ es)
    later above = (
      omega arith,
      omega (arith, r.1),
      rising_wider (suc e.0) (n + suc count) (suc e.0) (suc n + count) es (omega arith)
          (omega arith) r.2,
    )

pub living_spread : (live : List (ℕ × Thread)) (given : ℕ) → AreRising 1 (given + 1) live
    → living_from 1 (spread live given) ≡ live
unfolding spread
living_spread live given r =
    living_run live live 1 given (rising_wider 1 (given + 1) 1 (1 + given) live (omega arith)
    (omega arith) r) (λ t h. refl)

-- those that live rise in number
pub living_rises : (n : ℕ) (threads : List (Option Thread))
    → AreRising n (n + length threads) (living_from n threads)
living_rises n [] = tt
living_rises n (None ∷ threads) =
    rising_wider (suc n) (suc n + length threads) n (n + suc (length threads))
    (living_from (suc n) threads) (omega arith) (omega arith) (living_rises (suc n) threads)
living_rises n (Some thread ∷ threads) = (
  omega arith,
  omega arith,
  rising_wider (suc n) (suc n + length threads) (suc n) (n + suc (length threads))
      (living_from (suc n) threads) (omega arith) (omega arith) (living_rises (suc n) threads),
)

-- of the numbers from n on, where the live ones from n on are those of a list
run_living : (live : List (ℕ × Thread)) (n : ℕ) (threads : List (Option Thread))
    → ((t : ℕ) → n ≤ t → live_in live t ≡ live_in (living_from n threads) t)
    → map (live_in live) (run_of n (length threads)) ≡ threads
run_living live n [] same = refl
run_living live n (None ∷ threads) same =
    ap (λ o. o ∷ map (live_in live) (run_of (suc n) (length threads)))
    (same n (omega arith)
    ∙ in_below (suc n) (suc n + length threads) n (living_from (suc n) threads)
    (living_rises (suc n) threads) (omega arith))
    ∙ ap (λ os. None ∷ os) (run_living live (suc n) threads (λ t h. same t (omega arith)))
run_living live n (Some thread ∷ threads) same =
    ap (λ o. o ∷ map (live_in live) (run_of (suc n) (length threads)))
    (same n (omega arith) ∙ rw (same_test n n refl) refl)
    ∙ ap (λ os. Some thread ∷ os)
    (run_living live (suc n) threads
    (λ t h. same t (omega arith) ∙ rw (other_test n t (λ e. omega arith)) refl))

-- a list by number is spread from those that live
pub spread_living : (threads : List (Option Thread))
    → spread (living_from 1 threads) (length threads) ≡ threads
unfolding spread
spread_living threads = run_living (living_from 1 threads) 1 threads (λ t h. refl)
