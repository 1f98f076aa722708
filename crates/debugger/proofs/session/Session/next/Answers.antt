use Rattle.std.proofs.Common.{ap, arith, ◌∙◌}
use Rattle.debugger.specs.Standing.{SessionView}
use Rattle.debugger.proofs.Ready.{ready_there}
use Rattle.debugger.proofs.session.Session.next.Goals as goal

pub invariant_of-self-2 : goal.invariant_of-self-2
invariant_of-self-2 c = λ _.
    let ready = c.self.invariant (ap (λ (k : SessionView). k.failed) c.self.view_is ∙ c.requires) in
    let behind = ready.behind in
    let reach = ready.reach in
    ready_there c.histories_start.ensures _ ready c.next.new.self c.next.ensures.same
    c.in_ok-kind.ensures.failed c.in_ok-kind.ensures.stands
    (omega (arith, behind, c.in_ok-kind.ensures.moves))
    (omega (arith, reach, c.in_ok-kind.ensures.reached))
