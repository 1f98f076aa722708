use Rattle.std.proofs.Common.{ℕ, suc, ◌≡◌, ◌+◌, ◌∙◌, ◌<◌, ap, sym, subst, rules, arith, Some, true}
use Rattle.std.proofs.Common.{false, nat_eq, Bool, ◌⊎◌, ◌≢◌, inl, inr, eqb}
use Rattle.std.specs.Prelude.{slice_get}
use Rattle.std.proofs.lemmas.Bool.Decides.{eqb_tells}
use Rattle.std.proofs.lemmas.Option.{slice_get-get_or}
use Rattle.code_pages.proofs.learning.follows.Goals as goal

same-of : (a b : ℕ) → nat_eq a b ≡ true → a ≡ b
same-of a b h = by_test (eqb_tells a b)
  where
    true-not : {b : Bool} → b ≡ true → b ≡ false → ⊥
    true-not e f = cc

    by_test : ((eqb a b ≡ true) × (a ≡ b)) ⊎ ((eqb a b ≡ false) × (a ≢ b)) → a ≡ b
    by_test (inl p) = p.1
    by_test (inr p) = absurd (true-not h p.0)

pub returns : goal.returns
returns c = λ same goes.
    let lines = c.args.lines.now.items in
    let next = c.index.result.now in
    let run : 0 < c.args.line.run = omega (arith, c.if-line-eq0.false) in
    let within = c.requires.within run in
    let is : slice_get lines (c.args.at + 1) ≡ Some next =
    slice_get-get_or lines (c.args.at + 1) next (search rules) ∙ ap Some (sym c.index.ensures) in
    let e = same-of c.from.result (c.from-2.result + c.from-3.result) same in
    let place : c.args.at + 1 ≡ suc c.args.at = omega arith in (
      run,
      record {
        next = next;
        is = subst (λ (n : ℕ). slice_get lines n ≡ Some next) place is;
        offset_is = omega (arith, e, c.from.ensures, c.from-2.ensures, c.from-3.ensures);
      },
    )
