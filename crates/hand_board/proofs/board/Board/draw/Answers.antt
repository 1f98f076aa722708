use Rattle.std.proofs.Common.{◌≡◌, ◌+◌, ◌<◌, ℕ, List, ◌∷◌, length, refl, sym, subst, ap, ap₂, ◌∙◌}
use Rattle.std.proofs.Common.{arith}
use mathlib.Core.Logic.{dite}
use native.Mathlib.Decide.{ℕ_discrete}
use lib.ListN.{get_elem?}
use Rattle.hand_board.specs.Placed.{times}
use Rattle.hand_board.specs.Seating.{Has}
use Rattle.hand_board.proofs.Counts.{times_here}
use Rattle.hand_board.proofs.board.Board.draw.Goals as goal

has_first : (n : ℕ) (l : List ℕ) → Has n (n ∷ l)
has_first n l = omega (arith, times_here n l)

has_more : (n k : ℕ) (l : List ℕ) → Has k l → Has k (n ∷ l)
has_more n k l h = omega arith

-- each number below n has been found, and n is found
one_more : (n : ℕ) (l : List ℕ) → ((k : ℕ) → k < n → Has k l) → (k : ℕ) → k < n + 1
    → Has k (n ∷ l)
one_more n l f k h = dite (ℕ_discrete k n)
    (λ e. subst (λ z. Has z (n ∷ l)) (sym e) (has_first n l))
    (λ ne. has_more n k l (f k (omega arith)))

-- what isn't found now wasn't found before
none_before : (k : ℕ) (l m : List ℕ) → (Has k l → Has k m) → times k m ≡ 0 → times k l ≡ 0
none_before k l m f e = dite (ℕ_discrete (times k l) 0) (λ none_. none_)
    (λ some_. absurd (let h = f (omega arith) in omega arith))

pub returns-then-seat-clause-none : goal.returns-then-seat-clause-none
returns-then-seat-clause-none g c = let s = c.seat.invariant in let is = c.seat.view_is in
    let same = ap (λ z. z.words)
    (ap (λ z. z.board) is ∙ c.requires.board ∙ sym (ap (λ z. z.id) c.self.view_is)) in
    let a = s.sized.0 in
    let b = c.self.invariant.sized.0 in
    let d = c.self.invariant.all in
    let e = ap (λ z. length z.opened) c.self.view_is in (
      sym (ap (λ z. z.ended) is)
          ∙ c.if-seat.true,
      refl,
      (λ k lt. subst (λ z. Has k z.found) is (s.all c.if-seat.true k (omega arith))),
    )

-- the search begins where the seat's last one ended
pub loop-number-init : goal.loop-number-init
loop-number-init g c =
    let is = c.seat.view_is in
    let open_ = sym (ap (λ z. z.ended) is) ∙ c.if-seat.false in
    let next = ap (λ z. z.next) is in (
      refl,
      refl,
      refl,
      refl,
      refl,
      open_,
      open_,
      omega arith,
      (λ k h. subst (λ z. Has k z.found) is (c.seat.invariant.below k h)),
      (λ k h. h),
    )

pub invariant_of-seat : goal.invariant_of-seat
invariant_of-seat g c =
    let s = c.seat-in-loop-number.invariant in
    let found = ap (λ z. z.found) (c.seat-in-loop-number.view_is ∙ c.in-Some.ensures.some.3) in
    record {
      sized = s.sized;
      slots = s.slots;
      share_is = s.share_is;
      positive = s.positive;
      low = s.low;
      below = λ k h. subst (λ l. Has k l) (sym found)
          (one_more c.loop-number.number c.loop-number.seat.found c.loop-number.invariant.8 k h);
      all = s.all;
    }

pub returns-in-Some-clause-seat : goal.returns-in-Some-clause-seat
returns-in-Some-clause-seat g c =
    let inv = c.loop-number.invariant in
    let is = c.seat-in-loop-number.view_is ∙ c.in-Some.ensures.some.3 in (
      ap (λ z. z.board) is ∙ inv.0,
      ap (λ z. z.opened) is ∙ inv.1,
      ap (λ z. z.share) is ∙ inv.2,
    )

pub returns-in-Some-clause-some : goal.returns-in-Some-clause-some
returns-in-Some-clause-some g c =
    let inv = c.loop-number.invariant in
    let some_ = c.in-Some.ensures.some in
    let is = c.seat-in-loop-number.view_is ∙ some_.3 in (
      inv.6,
      ap₂ (λ l n. get_elem? l n) (sym inv.1) some_.0 ∙ some_.1,
      ap (λ n. times n c.args.seat.now.found) some_.0
          ∙ none_before c.loop-number.number _ _ (inv.9 c.loop-number.number) some_.2,
      subst (λ l. Has c.in-Some.job.number l) (sym (ap (λ z. z.found) is))
          (subst (λ n. Has n (c.loop-number.number ∷ c.loop-number.seat.found)) (sym some_.0)
          (has_first c.loop-number.number c.loop-number.seat.found)),
      ap (λ z. z.hand) is ∙ ap₂ (λ n l. n ∷ l) (sym some_.0) inv.3,
      ap (λ z. z.ended) is ∙ inv.5,
    )

pub returns-in-Some-clause-found : goal.returns-in-Some-clause-found
returns-in-Some-clause-found g c k h =
    subst (λ l. Has k l)
    (sym (ap (λ z. z.found) (c.seat-in-loop-number.view_is ∙ c.in-Some.ensures.some.3)))
    (has_more c.loop-number.number k c.loop-number.seat.found (c.loop-number.invariant.9 k h))

pub loop-number-preserved : goal.loop-number-preserved
loop-number-preserved g c =
    let inv = c.loop-number.invariant in
    let none_ = c.in-None.ensures.none in
    let found = sym (ap (λ z. z.found) none_) in
    let low = inv.7 in (
      ap (λ z. z.board) none_ ∙ inv.0,
      ap (λ z. z.opened) none_ ∙ inv.1,
      ap (λ z. z.share) none_ ∙ inv.2,
      ap (λ z. z.hand) none_ ∙ inv.3,
      ap (λ z. z.next) none_ ∙ inv.4,
      ap (λ z. z.ended) none_ ∙ inv.5,
      inv.6,
      omega arith,
      (λ k h. subst (λ l. Has k l) found
          (one_more c.loop-number.number c.loop-number.seat.found inv.8 k h)),
      (λ k h. subst (λ l. Has k l) found
          (has_more c.loop-number.number k c.loop-number.seat.found (inv.9 k h))),
    )
