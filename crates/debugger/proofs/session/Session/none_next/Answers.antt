use Rattle.debugger.proofs.Placing.{ended_so, misfits_so}
use Rattle.debugger.proofs.session.Session.none_next.Goals as goal

pub returns-in-Some-clause-next : goal.returns-in-Some-clause-next
returns-in-Some-clause-next c = ended_so c.self.view_is c.in-Some.ending c.in-Some.ensures

pub returns-in_ok-found-in-None-clause-next : goal.returns-in_ok-found-in-None-clause-next
returns-in_ok-found-in-None-clause-next c =
    misfits_so c.self.view_is c.in_ok-found-in-None.found c.in-None.ensures
    c.in_ok-found-in-None.ensures.misfit
