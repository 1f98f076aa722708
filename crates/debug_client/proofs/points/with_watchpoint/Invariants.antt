use Rattle.std.proofs.Common.{◌≡◌, ◌++◌, drop}
use Rattle.debug_session.specs.Points.{without_watchpoint}
use Rattle.debug_client.proofs.points.with_watchpoint.Given as goal

abbrev pub invariant-loop-other : goal.invariant-loop-other
invariant-loop-other l =
    l.all.items ++ without_watchpoint (drop l.other-index l.points) l.point
    ≡ without_watchpoint l.points l.point
