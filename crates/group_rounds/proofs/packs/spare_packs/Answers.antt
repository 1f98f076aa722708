use Rattle.std.proofs.Common.{◌∷◌, [], ◌∙◌, ap, length, length-append, arith}
use Rattle.group_rounds.specs.Handing.{blank_pack, emptied_pack}
use Rattle.group_rounds.proofs.HandingLaws.{blank-empty, spare-more}
use Rattle.group_rounds.proofs.packs.spare_packs.Goals as goal

pub loop-place-preserved : goal.loop-place-preserved
loop-place-preserved c =
    let a = c.in_ok-push.ensures in
    let more = c.in_ok-reserve_pack.field-0 in
    let count = ap length a.items ∙ length-append c.loop-place.packs.items (more ∷ []) in
    let inv = c.loop-place.invariant in
    record {
      spare = spare-more (blank_pack c.args.scheme c.args.frames) c.loop-place.packs.items _ more
          a.items inv.spare
          (ap emptied_pack c.in_ok-reserve_pack.ensures ∙ blank-empty c.args.scheme c.args.frames);
      count = omega (arith, count, inv.count);
      room = omega (arith, inv.room, a.capacity);
    }
