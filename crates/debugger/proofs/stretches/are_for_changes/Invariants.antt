use Rattle.std.proofs.Common.{take}
use Rattle.std.specs.Prelude.{All}
use Rattle.debugger.specs.Quiet.{IsForChanges}
use Rattle.debugger.proofs.stretches.are_for_changes.Given as goal

abbrev pub invariant-loop-point : goal.invariant-loop-point
invariant-loop-point l = All IsForChanges (take l.point-index l.points)
