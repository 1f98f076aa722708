use Rattle.std.proofs.Common.{◌≡◌, map, take}
use Rattle.debug_session.specs.declared.points.Breakpoint.{Breakpoint}
use Rattle.debugger.proofs.stretches.addresses_of.Given as goal

abbrev pub invariant-loop-point : goal.invariant-loop-point
invariant-loop-point l =
    l.stops.items ≡ map (λ (point : Breakpoint). point.address) (take l.point-index l.points)
