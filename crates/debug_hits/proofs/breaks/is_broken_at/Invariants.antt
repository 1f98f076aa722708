use Rattle.std.proofs.Common.{◌≡◌, drop}
use Rattle.debug_session.specs.Points.{is_broken_at}
use Rattle.debug_hits.proofs.breaks.is_broken_at.Given as goal

abbrev pub invariant-loop-b : goal.invariant-loop-b
invariant-loop-b l =
    is_broken_at (drop l.b-index l.breakpoints) l.process l.pc
    ≡ is_broken_at l.breakpoints l.process l.pc
