use Rattle.std.proofs.Common.{◌-◌}
use Rattle.debugger.proofs.Behind.{HasComeBack}
use Rattle.debugger.proofs.session.Session.backwards.Given as goal

abbrev pub invariant-loop-stepped : goal.invariant-loop-stepped
invariant-loop-stepped l =
    HasComeBack l.fn.self l.self l.resumptions l.stepped l.moves l.quiet l.was_there l.halt

abbrev pub decreases-loop-stepped : goal.decreases-loop-stepped
decreases-loop-stepped l = l.moves - l.self.playback.moves
