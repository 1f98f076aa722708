use Rattle.std.proofs.Common.{ap, ◌∙◌, List, Bool, set, true}
use Rattle.hierarchical_bitmap.proofs.Bits.{set-next}
use Rattle.hierarchical_bitmap.proofs.bitmap.Bitmap.full.Goals as goal

pub loop-place-preserved : goal.loop-place-preserved
loop-place-preserved c =
    c.set.ensures ∙ ap (λ (bs : List Bool). set bs c.loop-place.place true) c.loop-place.invariant
    ∙ set-next c.args.count c.loop-place.place c.loop-place-test.true
