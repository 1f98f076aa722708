use Rattle.debug_where.specs.declared.here.Here.{Here}
use Rattle.debugger.proofs.Placing.{is_here_so}
use Rattle.debugger.proofs.session.Session.place.Goals as goal

pub returns : goal.returns
returns c =
    let place : Here = record {
      begun = c.begun.result;
      made = c.made.result;
      phase = c.phase.result;
      last = c.args.last;
      next = c.args.next;
      used = c.used.result;
      entries = c.entries.result;
    } in
    is_here_so c.self.view_is c.self.invariant c.requires place c.begun.ensures c.made.ensures
    c.phase.ensures c.used.ensures c.entries.ensures
