-- Whether a stretch that is touched has bytes that are watched.
use Rattle.std.proofs.Common.{◌≡◌, ℕ, zero, suc, ◌+◌, ◌*◌, ◌/◌, ◌%◌, ◌<◌, ◌≤◌, min, max, Bool}
use Rattle.std.proofs.Common.{true, false, List, [], ◌∷◌, Option, Some, None, IfSome, refl, sym, ap}
use Rattle.std.proofs.Common.{◌∙◌, arith, ltb, leb}
use Rattle.std.specs.Prelude.{IsSome, ◌||◌, ◌&&◌, nat_le, nat_lt, option_map}
use Rattle.std.specs.List.{list_any}
use Rattle.std.proofs.lemmas.Bool.{false≢true, le-ltb}
use Rattle.std.proofs.lemmas.Bool.Decides.{nat_tests}
use Rattle.std.proofs.lemmas.List.Folds.{list_any-append}
use Rattle.dos_world.specs.Numbered.{run_of}
use Rattle.dos_world.specs.World.{World, Thread, thread_at, look, space_of, page_size}
use Rattle.dos_world.specs.declared.Entry.{Entry}
use Rattle.flat_machine.specs.Rest.{process_of}
use Rattle.debug_session.specs.declared.points.Watchpoint.{Watchpoint}
use Rattle.debug_session.specs.Told.{place_of_address}
use Rattle.debug_session.specs.Accesses.{Touch, is_place_in, touch_of}
use Rattle.debug_session.specs.Hits.{is_touched, is_touched_by}
use Rattle.debug_hits.specs.Touching.{is_between}
use Rattle.debug_hits.proofs.Parts.{run_of-add, within_page}

-- ---- tests over a list

any_same : {A : Type 0} (f g : A → Bool) → ((x : A) → f x ≡ g x) → (xs : List A)
    → list_any f xs ≡ list_any g xs
any_same f g each [] = refl
any_same f g each (x ∷ xs) =
    ap (λ b. b || list_any f xs) (each x) ∙ ap (λ b. g x || b) (any_same f g each xs)

any_none : {A : Type 0} (f : A → Bool) → ((x : A) → f x ≡ false) → (xs : List A)
    → list_any f xs ≡ false
any_none f each [] = refl
any_none f each (x ∷ xs) = ap (λ b. b || list_any f xs) (each x) ∙ any_none f each xs

-- ---- places of a page

-- one place more for each address more
module _ (w : World) (p a : ℕ) where
  abbrev place_in : (address : ℕ) → Option Entry → Option ℕ
  place_in address e =
      option_map (λ (e : Entry). page_size * e.frame + address % page_size) e

  abbrev entry : Option Entry
  entry = look (space_of w p) (a / 4096)

  at_page : (k : ℕ) → (a + k) / 4096 ≡ a / 4096
      → place_of_address w p (a + k) ≡ place_in (a + k) entry
  at_page k of_page = ap (λ n. place_in (a + k) (look (space_of w p) n)) of_page

  none_further : (k : ℕ) → (a + k) / 4096 ≡ a / 4096 → place_of_address w p a ≡ None
      → place_of_address w p (a + k) ≡ None
  none_further k of_page none = at_page k of_page ∙ by entry none
    where
      by : (e : Option Entry) → place_in a e ≡ None → place_in (a + k) e ≡ None
      by None is = refl
      by (Some e) is = cc

  place_further : (k place : ℕ) → (a + k) / 4096 ≡ a / 4096
      → place_of_address w p a ≡ Some place → place_of_address w p (a + k) ≡ Some (place + k)
  place_further k place of_page is = at_page k of_page ∙ by entry is
    where
      by : (e : Option Entry) → place_in a e ≡ Some place → place_in (a + k) e ≡ Some (place + k)
      by None is = cc
      by (Some e) is =
          let here : 4096 * e.frame + a % 4096 ≡ place = cc in
          let next : 4096 * e.frame + (a + k) % 4096 ≡ place + k = omega (arith, of_page, here) in
          ap Some next

-- ---- overlaps

one_less : (f t n place : ℕ)
    → ((leb f place && ltb place (f + t)) || ltb (max f (place + 1)) (min (f + t) (place + 1 + n)))
    ≡ ltb (max f place) (min (f + t) (place + suc n))
one_less f t n place = grind (arith, nat_tests)

-- some of so many places from one on lie between
between_some : (test : ℕ → Option ℕ) (f t n a place : ℕ)
    → ((k : ℕ) → k < n → test (a + k) ≡ Some (place + k))
    → list_any (λ x. is_between f t (test x)) (run_of a n)
    ≡ nat_lt (max f place) (min (f + t) (place + n))
between_some test f t zero a place each =
    sym (le-ltb (max f place) (min (f + t) (place + 0)) (omega arith))
between_some test f t (suc n) a place each =
    let none : a ≡ a + 0 = omega arith in
    let first : test a ≡ Some place =
    ap test none ∙ each 0 (omega arith) ∙ ap (λ (x : ℕ). Some x) (omega arith) in
    ap (λ o. is_between f t o || list_any (λ x. is_between f t (test x)) (run_of (suc a) n)) first
    ∙ ap (λ b. (nat_le f place && nat_lt place (f + t)) || b)
    (between_some test f t n (suc a) (place + 1) (λ k less.
    let next : suc a + k ≡ a + suc k = omega arith in
    let beside : place + suc k ≡ place + 1 + k = omega arith in
    ap test next ∙ each (suc k) (omega (arith, less)) ∙ ap (λ (x : ℕ). Some x) beside))
    ∙ one_less f t n place

between_none : (test : ℕ → Option ℕ) (f t n a : ℕ) → ((k : ℕ) → k < n → test (a + k) ≡ None)
    → list_any (λ x. is_between f t (test x)) (run_of a n) ≡ false
between_none test f t zero a each = refl
between_none test f t (suc n) a each =
    let none : a ≡ a + 0 = omega arith in
    ap (λ o. is_between f t o || list_any (λ x. is_between f t (test x)) (run_of (suc a) n))
    (ap test none ∙ each 0 (omega arith))
    ∙ between_none test f t n (suc a) (λ k less.
    let next : suc a + k ≡ a + suc k = omega arith in
    ap test next ∙ each (suc k) (omega (arith, less)))

module _ (w : World) (p a n first touched : ℕ) (lies : a % 4096 + n ≤ 4096) where
  pub part_none : place_of_address w p a ≡ None
      → list_any (λ x. is_between first touched (place_of_address w p x)) (run_of a n) ≡ false
  part_none none =
      between_none (place_of_address w p) first touched n a
      (λ k less. none_further w p a k (within_page a n lies k less) none)

  pub part_some : (place : ℕ) → place_of_address w p a ≡ Some place
      → list_any (λ x. is_between first touched (place_of_address w p x)) (run_of a n)
      ≡ nat_lt (max first place) (min (first + touched) (place + n))
  part_some place is =
      between_some (place_of_address w p) first touched n a place
      (λ k less. place_further w p a k place (within_page a n lies k less) is)

-- ---- a touch

module _ (w : World) (p : ℕ) (touch : Touch) (point : Watchpoint) where
  place_nowhere : place_of_address w p touch.address ≡ None
      → (o : Option ℕ) → is_place_in w p touch o ≡ false
  place_nowhere none None = refl
  place_nowhere none (Some place) =
      ap (λ (o : Option ℕ). elim o as (λ _. Bool) [
        | None ↦ false
        | Some first ↦ nat_le first place && nat_lt place (first + touch.count)
      ]) none

  pub touch_nowhere : place_of_address w p touch.address ≡ None → is_touched w p touch point ≡ false
  touch_nowhere none =
      any_none (λ a. is_place_in w p touch (place_of_address w point.process a))
      (λ a. place_nowhere none (place_of_address w point.process a))
      (run_of point.address point.length)

  place_between : (first : ℕ) → place_of_address w p touch.address ≡ Some first
      → (o : Option ℕ) → is_place_in w p touch o ≡ is_between first touch.count o
  place_between first is None = refl
  place_between first is (Some place) =
      ap (λ (o : Option ℕ). elim o as (λ _. Bool) [
        | None ↦ false
        | Some first ↦ nat_le first place && nat_lt place (first + touch.count)
      ]) is

  pub touch_parts : (first m n b : ℕ) → place_of_address w p touch.address ≡ Some first
      → point.length ≡ m + n → b ≡ point.address + m
      → is_touched w p touch point
      ≡ (list_any (λ x. is_between first touch.count (place_of_address w point.process x))
      (run_of point.address m)
      || list_any (λ x. is_between first touch.count (place_of_address w point.process x))
      (run_of b n))
  touch_parts first m n b is whole b-is =
      let test : ℕ → Bool =
      λ (x : ℕ). is_between first touch.count (place_of_address w point.process x) in
      any_same (λ a. is_place_in w p touch (place_of_address w point.process a)) test
      (λ a. place_between first is (place_of_address w point.process a))
      (run_of point.address point.length)
      ∙ ap (λ k. list_any test (run_of point.address k)) whole
      ∙ ap (list_any test) (run_of-add point.address m n b b-is)
      ∙ list_any-append test (run_of point.address m) (run_of b n)

-- by the tests of its parts
module _ (w : World) (p : ℕ) (touch : Touch) (point : Watchpoint) (first m n b start : ℕ)
    (is : place_of_address w p touch.address ≡ Some first) (whole : point.length ≡ m + n)
    (start-is : start ≡ point.address) (b-is : b ≡ point.address + m) where
  pub front_touched :
      list_any (λ x. is_between first touch.count (place_of_address w point.process x))
      (run_of start m) ≡ true
      → is_touched w p touch point ≡ true
  front_touched front =
      touch_parts w p touch point first m n b is whole b-is
      ∙ ap (λ t. t || list_any
      (λ x. is_between first touch.count (place_of_address w point.process x)) (run_of b n))
      (ap (λ k. list_any (λ x. is_between first touch.count (place_of_address w point.process x))
      (run_of k m)) (sym start-is) ∙ front)

  pub back_touched : (touched : Bool)
      → list_any (λ x. is_between first touch.count (place_of_address w point.process x))
      (run_of start m) ≡ false
      → list_any (λ x. is_between first touch.count (place_of_address w point.process x))
      (run_of b n) ≡ touched
      → is_touched w p touch point ≡ touched
  back_touched touched front back =
      touch_parts w p touch point first m n b is whole b-is
      ∙ ap (λ t. t || list_any
      (λ x. is_between first touch.count (place_of_address w point.process x)) (run_of b n))
      (ap (λ k. list_any (λ x. is_between first touch.count (place_of_address w point.process x))
      (run_of k m)) (sym start-is) ∙ front)
      ∙ back

-- ---- of a thread

module _ (test : Touch → Bool) (w : World) (t : ℕ) (point : Watchpoint) (touch : Option Touch)
    (is : touch_of w t ≡ touch) where
  pub touched_by_none : touch ≡ None → is_touched_by test w t point (touch_of w t) ≡ false
  touched_by_none none = ap (is_touched_by test w t point) (is ∙ none)

  pub touched_by_other : (one : Touch) → touch ≡ Some one → test one ≡ false
      → is_touched_by test w t point (touch_of w t) ≡ false
  touched_by_other one some fails =
      ap (is_touched_by test w t point) (is ∙ some)
      ∙ ap (λ b. b && is_touched w (process_of w t) one point) fails

  pub touched_by_one : (one : Touch) (p : ℕ) (touched : Bool) → touch ≡ Some one → test one ≡ true
      → IsSome (thread_at w t) → IfSome (thread_at w t) (λ thread. p ≡ thread.process)
      → is_touched w p one point ≡ touched
      → is_touched_by test w t point (touch_of w t) ≡ touched
  touched_by_one one p touched some passes live own touches =
      ap (is_touched_by test w t point) (is ∙ some)
      ∙ ap (λ b. b && is_touched w (process_of w t) one point) passes
      ∙ ap (λ k. is_touched w k one point) (sym (named (thread_at w t) live own)) ∙ touches
    where
      named : (o : Option Thread) → IsSome o → IfSome o (λ thread. p ≡ thread.process)
          → p ≡ elim o as (λ _. ℕ) [ None ↦ 0 | Some thread ↦ thread.process ]
      named None live own = absurd (false≢true live)
      named (Some thread) live own = own
