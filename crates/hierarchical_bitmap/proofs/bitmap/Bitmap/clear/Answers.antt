use Rattle.std.proofs.Common.{refl}
use Rattle.hierarchical_bitmap.proofs.Summaries.{in_groups, in_places, in_words, levels-are}
use Rattle.hierarchical_bitmap.proofs.Summaries.{levels-cleared, levels-left, levels-word_left}
use Rattle.hierarchical_bitmap.proofs.Summaries.{shown-cleared, word-left, word-zero}
use Rattle.hierarchical_bitmap.proofs.bitmap.Bitmap.clear.Goals as goal

pub clear_bit-requires : goal.clear_bit-requires
clear_bit-requires c = in_places c.self.invariant c.self.view_is c.args.place c.requires

pub clear_bit-requires-then-clear_bit : goal.clear_bit-requires-then-clear_bit
clear_bit-requires-then-clear_bit c =
    in_words c.self.invariant c.self.view_is c.args.place c.requires

pub clear_bit-zero-requires : goal.clear_bit-zero-requires
clear_bit-zero-requires c = in_groups c.self.invariant c.self.view_is c.args.place c.requires

pub invariant_of-self : goal.invariant_of-self
invariant_of-self c =
    levels-are c.clear_bit.ensures.cleared c.clear_bit-then-clear_bit.ensures.cleared
    c.clear_bit-zero.ensures.cleared
    (levels-cleared c.self.invariant c.self.view_is c.args.place c.requires
    (word-zero _ c.clear_bit.ensures.cleared c.clear_bit.ensures.zero c.if-clear_bit.true)
    (word-zero _ c.clear_bit-then-clear_bit.ensures.cleared
    c.clear_bit-then-clear_bit.ensures.zero c.if-clear_bit-2.true))

pub invariant_of-self-else-clear_bit-2 : goal.invariant_of-self-else-clear_bit-2
invariant_of-self-else-clear_bit-2 c =
    levels-are c.clear_bit.ensures.cleared c.clear_bit-then-clear_bit.ensures.cleared refl
    (levels-word_left c.self.invariant c.self.view_is c.args.place c.requires
    (word-zero _ c.clear_bit.ensures.cleared c.clear_bit.ensures.zero c.if-clear_bit.true)
    (word-left _ c.clear_bit-then-clear_bit.ensures.cleared
    c.clear_bit-then-clear_bit.ensures.zero c.if-clear_bit-2.false))

pub invariant_of-self-else-clear_bit : goal.invariant_of-self-else-clear_bit
invariant_of-self-else-clear_bit c =
    levels-are c.clear_bit.ensures.cleared refl refl
    (levels-left c.self.invariant c.self.view_is c.args.place c.requires
    (word-left _ c.clear_bit.ensures.cleared c.clear_bit.ensures.zero c.if-clear_bit.false))

pub returns-then-clear_bit-2 : goal.returns-then-clear_bit-2
returns-then-clear_bit-2 c = shown-cleared c.self.invariant c.self.view_is c.args.place c.requires
    c.clear_bit.ensures.cleared

pub returns-else-clear_bit-2 : goal.returns-else-clear_bit-2
returns-else-clear_bit-2 c = shown-cleared c.self.invariant c.self.view_is c.args.place c.requires
    c.clear_bit.ensures.cleared

pub returns-else-clear_bit : goal.returns-else-clear_bit
returns-else-clear_bit c = shown-cleared c.self.invariant c.self.view_is c.args.place c.requires
    c.clear_bit.ensures.cleared
