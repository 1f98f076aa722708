use Rattle.std.proofs.Common.{take}
use Rattle.std.specs.Prelude.{All}
use Rattle.debug_hits.specs.Kept.{FitsPage}
use Rattle.debugger.proofs.moving.are_short.Given as goal

abbrev pub invariant-loop-point : goal.invariant-loop-point
invariant-loop-point l = All FitsPage (take l.point-index l.points)
