use Rattle.std.proofs.Common.{◌≡◌, ◌≤◌, false}
use Rattle.debugger.specs.Standing.{IsSame}
use Rattle.debugger.proofs.session.Session.go_to_end.Given as goal

abbrev pub invariant-loop : goal.invariant-loop
invariant-loop l = record {
  running : l.self.failed ≡ false;
  same : IsSame l.fn.self l.self;
  further : l.fn.self.furthest ≤ l.self.furthest;
}
