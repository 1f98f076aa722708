-- Whether a move hits a watchpoint, and the first one that it hits.
use Rattle.std.proofs.Common.{◌≡◌, ℕ, zero, suc, ◌+◌, ◌<◌, ◌≤◌, Bool, true, false, cond, List, []}
use Rattle.std.proofs.Common.{◌∷◌, length, map, drop, get_or, Option, Some, None, IfSome, refl, sym}
use Rattle.std.proofs.Common.{ap, ◌∙◌, arith}
use Rattle.std.specs.Prelude.{◌||◌, ◌&&◌, find, option_map, slice_get}
use Rattle.std.proofs.lemmas.Option.{slice_get-map, slice_get-get_or}
use Rattle.std.proofs.lemmas.List.{length-map}
use Rattle.dos_world.specs.World.{World}
use Rattle.group_moves.specs.Moves.{MoveKind}
use Rattle.debug_session.specs.declared.points.Watchpoint.{Watchpoint}
use Rattle.debug_session.specs.declared.points.WatchKind.TheVariants.{Changes, Reads, Accesses}
use Rattle.debug_session.specs.Hits.{is_changed, is_hit_as}
use Rattle.debug_hits.specs.Kept.{is_touched_as}
use Rattle.debug_hits.proofs.Parts.{both}

-- ---- one of them

module _ (w v : World) (kind : MoveKind) (point : Watchpoint) (touched changed : Bool)
    (touched_is : is_touched_as point.kind w kind point ≡ touched) where
  pub hit_changes : point.kind ≡ Changes → is_changed w v point ≡ changed
      → is_hit_as point.kind w kind v point ≡ changed
  hit_changes is changes = ap (λ k. is_hit_as k w kind v point) is ∙ changes

  pub hit_reads : point.kind ≡ Reads → is_hit_as point.kind w kind v point ≡ touched
  hit_reads is =
      ap (λ k. is_hit_as k w kind v point) is
      ∙ ap (λ k. is_touched_as k w kind point) (sym is) ∙ touched_is

  or_true : (b : Bool) → (b || true) ≡ true
  or_true true = refl
  or_true false = refl

  or_false : (b : Bool) → (b || false) ≡ b
  or_false true = refl
  or_false false = refl

  accesses : point.kind ≡ Accesses
      → is_hit_as point.kind w kind v point ≡ (is_changed w v point || touched)
  accesses is =
      ap (λ k. is_hit_as k w kind v point) is
      ∙ ap (λ t. is_changed w v point || t)
      (ap (λ k. is_touched_as k w kind point) (sym is) ∙ touched_is)

  pub hit_touching : point.kind ≡ Accesses → touched ≡ true
      → is_hit_as point.kind w kind v point ≡ true
  hit_touching is touches =
      accesses is ∙ ap (λ t. is_changed w v point || t) touches ∙ or_true (is_changed w v point)

  pub hit_changing : point.kind ≡ Accesses → touched ≡ false → is_changed w v point ≡ changed
      → is_hit_as point.kind w kind v point ≡ changed
  hit_changing is none changes =
      accesses is ∙ ap (λ t. is_changed w v point || t) none ∙ or_false (is_changed w v point)
      ∙ changes

-- ---- the first of them

find_further : {A : Type 0} (test : A → Bool) (xs : List A) (i : ℕ) → i < length xs
    → IfSome (slice_get xs i) (λ x. test x ≡ false)
    → find test (drop i xs) ≡ find test (drop (suc i) xs)
find_further test [] i less none = absurd (omega arith)
find_further test (x ∷ xs) zero less none = ap (λ b. cond b (Some x) (find test xs)) none
find_further test (x ∷ xs) (suc i) less none = find_further test xs i (omega arith) none

pub find_on : {A : Type 0} (test : A → Bool) (xs : List A) (i : ℕ) → i < length xs
    → IfSome (slice_get xs i) (λ x. test x ≡ false)
    → find test (drop i xs) ≡ find test (drop (i + 1) xs)
find_on test xs i less none =
    let next : suc i ≡ i + 1 = omega arith in
    find_further test xs i less none ∙ ap (λ k. find test (drop k xs)) next

pub find_here : {A : Type 0} (test : A → Bool) (xs : List A) (i : ℕ) (y : A) → i < length xs
    → IfSome (slice_get xs i) (λ x. (test x ≡ true) × (x ≡ y))
    → find test (drop i xs) ≡ Some y
find_here test [] i y less is = absurd (omega arith)
find_here test (x ∷ xs) zero y less is =
    ap (λ b. cond b (Some x) (find test xs)) is.0 ∙ ap Some is.1
find_here test (x ∷ xs) (suc i) y less is = find_here test xs i y (omega arith) is

pub find_none : {A : Type 0} (test : A → Bool) (xs : List A) (i : ℕ) → length xs ≤ i
    → find test (drop i xs) ≡ None
find_none test [] zero all = refl
find_none test [] (suc i) all = refl
find_none test (x ∷ xs) zero all = absurd (omega arith)
find_none test (x ∷ xs) (suc i) all = find_none test xs i (omega arith)

-- what the test says of each, by place
pub tested_at : {A : Type 0} (test : A → Bool) (xs : List A) (bs : List Bool) (i : ℕ) (b d : Bool)
    → bs ≡ map test xs → i < length bs → b ≡ get_or bs i d
    → IfSome (slice_get xs i) (λ x. test x ≡ b)
tested_at {A = A} test xs bs i b d is less b-is = by (slice_get xs i)
    (sym (slice_get-map test xs i) ∙ ap (λ ts. slice_get ts i) (sym is)
    ∙ slice_get-get_or bs i d less ∙ ap Some (sym b-is))
  where
    by : (o : Option A) → option_map test o ≡ Some b → IfSome o (λ x. test x ≡ b)
    by None e = tt
    by (Some x) e = cc

-- By what is said of the element of a place, in a walk over all of them.
module _ {A : Type 0} (test hit : A → Bool) (xs : List A) (bs : List Bool) (i : ℕ) (result : Bool)
    (tests : bs ≡ map test xs) (less : i < length bs)
    (said : IfSome (slice_get xs i) (λ x. (get_or bs i false && hit x) ≡ result)) where
  within : i < length xs
  within = omega (arith, less, ap length tests, length-map xs test)

  found_so : (y : Bool) → result ≡ y
      → IfSome (slice_get xs i) (λ x. (test x && hit x) ≡ y)
  found_so y is =
      both (λ x. test x ≡ get_or bs i false) (λ x. (get_or bs i false && hit x) ≡ result)
      (λ x. (test x && hit x) ≡ y) (slice_get xs i)
      (tested_at test xs bs i (get_or bs i false) false tests less refl) said
      (λ x t s. ap (λ b. b && hit x) t ∙ s ∙ is)

  pub not_here : result ≡ false
      → find (λ x. test x && hit x) (drop i xs) ≡ find (λ x. test x && hit x) (drop (i + 1) xs)
  not_here is = find_on (λ x. test x && hit x) xs i within (found_so false is)

  pub is_here : (y : A) → result ≡ true → IfSome (slice_get xs i) (λ x. x ≡ y)
      → find (λ x. test x && hit x) (drop i xs) ≡ Some y
  is_here y is same =
      find_here (λ x. test x && hit x) xs i y within
      (both (λ x. (test x && hit x) ≡ true) (λ x. x ≡ y)
      (λ x. ((test x && hit x) ≡ true) × (x ≡ y)) (slice_get xs i) (found_so true is) same
      (λ x t s. (t, s)))
