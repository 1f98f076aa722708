use Rattle.hierarchical_bitmap.proofs.Summaries.{in_groups, in_places, in_words, levels-are}
use Rattle.hierarchical_bitmap.proofs.Summaries.{levels-set, shown-set}
use Rattle.hierarchical_bitmap.proofs.bitmap.Bitmap.set.Goals as goal

pub set_bit-requires : goal.set_bit-requires
set_bit-requires c = in_places c.self.invariant c.self.view_is c.args.place c.requires

pub set_bit-requires-2 : goal.set_bit-requires-2
set_bit-requires-2 c = in_words c.self.invariant c.self.view_is c.args.place c.requires

pub set_bit-requires-3 : goal.set_bit-requires-3
set_bit-requires-3 c = in_groups c.self.invariant c.self.view_is c.args.place c.requires

pub invariant_of-self : goal.invariant_of-self
invariant_of-self c = levels-are c.set_bit.ensures c.set_bit-2.ensures c.set_bit-3.ensures
    (levels-set c.self.invariant c.self.view_is c.args.place c.requires)

pub returns : goal.returns
returns c =
    shown-set c.self.invariant c.self.view_is c.args.place c.requires c.set_bit.ensures
