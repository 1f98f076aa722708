use Rattle.std.proofs.Common.{arith, refl}
use Rattle.hierarchical_bitmap.proofs.Summaries.{lowest-bit}
use Rattle.hierarchical_bitmap.proofs.words.lowest_in.Goals as goal

pub returns : goal.returns
returns c = lowest-bit c.args.words.now c.args.index _ c.requires.some
    (omega (arith, c.type_inv.words c.args.index)) c.requires.below refl
