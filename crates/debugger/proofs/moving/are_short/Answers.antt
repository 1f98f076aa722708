use Rattle.std.proofs.Common.{arith, subst}
use Rattle.std.specs.Prelude.{All}
use Rattle.std.proofs.lemmas.List.{take_all}
use Rattle.std.proofs.lemmas.List.Elements.{All-more}
use Rattle.debug_hits.specs.Kept.{FitsPage}
use Rattle.debugger.proofs.moving.are_short.Goals as goal

pub loop-point-preserved : goal.loop-point-preserved
loop-point-preserved c =
    All-more FitsPage c.args.points.now c.loop-point.point-index _ (omega arith)
    c.loop-point.invariant c.if-point-gt4096.false

pub returns : goal.returns
returns c short =
    subst (All FitsPage) (take_all c.loop-point.point-index c.args.points.now (omega arith))
    c.loop-point.invariant
