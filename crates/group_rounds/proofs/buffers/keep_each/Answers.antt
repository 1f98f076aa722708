use Rattle.std.proofs.Common.{◌∷◌, [], ◌∙◌, ap, length, length-append, arith}
use Rattle.quantum_run.specs.Packs.{empty_writing}
use Rattle.group_rounds.proofs.HandingLaws.{spare-last, spare-less, spare-more}
use Rattle.group_rounds.proofs.buffers.keep_each.Goals as goal

pub loop-pack-preserved : goal.loop-pack-preserved
loop-pack-preserved c =
    let inv = c.loop-pack.invariant in
    let pack = c.in-Some.pack in
    let rest = c.pop.new.self.items in
    let popped = c.in-Some.ensures.items in
    let kept = ap length c.keep.ensures.items
    ∙ length-append c.loop-pack.spare.items (pack ∷ []) in
    let left = ap length popped ∙ length-append rest (pack ∷ []) in
    record {
      packs = spare-less empty_writing rest c.loop-pack.packs.items pack popped inv.packs;
      spare = spare-more empty_writing c.loop-pack.spare.items _ pack c.keep.ensures.items
          inv.spare
          (spare-last empty_writing rest c.loop-pack.packs.items pack popped inv.packs);
      count = omega (arith, kept, left, inv.count);
      spare_room = omega (arith, inv.spare_room, c.keep.ensures.room);
      packs_room = c.in-Some.ensures.capacity ∙ inv.packs_room;
    }
