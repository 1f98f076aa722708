use Rattle.std.proofs.Common.{◌≡◌, ◌++◌, drop}
use Rattle.debug_session.specs.Points.{with_breakpoint, without_breakpoint}
use Rattle.debug_client.proofs.points.with_breakpoint.Given as goal

abbrev pub invariant-loop-point : goal.invariant-loop-point
invariant-loop-point l =
    l.all.items ++ without_breakpoint (drop l.point-index l.points) l.process l.address
    ≡ with_breakpoint l.points l.process l.address
