use Rattle.std.proofs.Common.{arith, subst}
use Rattle.std.specs.Prelude.{All}
use Rattle.std.proofs.lemmas.List.{take_all}
use Rattle.std.proofs.lemmas.List.Elements.{All-more}
use Rattle.debugger.specs.Quiet.{IsForChanges}
use Rattle.debugger.proofs.stretches.are_for_changes.Goals as goal

pub loop-point-preserved : goal.loop-point-preserved
loop-point-preserved c =
    All-more IsForChanges c.args.points.now c.loop-point.point-index _ (omega arith)
    c.loop-point.invariant (c.is_for_changes.ensures c.if-not-is_for_changes.false)

pub returns : goal.returns
returns c all =
    subst (All IsForChanges) (take_all c.loop-point.point-index c.args.points.now (omega arith))
    c.loop-point.invariant
