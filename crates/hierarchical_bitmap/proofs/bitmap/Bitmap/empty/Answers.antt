use Rattle.std.proofs.Common.{ℕ, List, ap, ◌∙◌, arith, refl}
use Rattle.hierarchical_bitmap.specs.Levels.{places_set}
use Rattle.hierarchical_bitmap.proofs.Bits.{bits-zeros}
use Rattle.hierarchical_bitmap.proofs.Summaries.{levels-are, levels-zeros}
use Rattle.hierarchical_bitmap.proofs.bitmap.Bitmap.empty.Goals as goal

pub invariant_of-result : goal.invariant_of-result
invariant_of-result c =
    levels-are c.in_ok-zeros.ensures c.in_ok-zeros-2.ensures
    c.in_ok-zeros-3.ensures
    (levels-zeros c.args.count _ _ _ (omega (arith, c.ranges.count)) refl refl refl)

pub returns : goal.returns
returns c =
    ap (λ (xs : List ℕ). places_set c.args.count xs) c.in_ok-zeros.ensures
    ∙ bits-zeros c.args.count _
