use Rattle.std.proofs.Common.{ap, sym, ◌∙◌}
use Rattle.debugger.specs.Halting.{whose_stop}
use Rattle.debugger.specs.Standing.{here}
use Rattle.debugger.proofs.Staying.{if_ok_map, same_itself}
use Rattle.debugger.proofs.session.Session.whose_here.Goals as goal

pub returns-in-Some-clause-whose : goal.returns-in-Some-clause-whose
returns-in-Some-clause-whose c start s is_start asked =
    ap (whose_stop s c.args.resumptions.now (here c.args.self.now start)) (sym c.in-Some.is)

pub returns-in-None-clause-whose : goal.returns-in-None-clause-whose
returns-in-None-clause-whose c =
    if_ok_map c.chosen_here.result _ _
    (λ pair each start s is_start asked. each start s is_start asked
    ∙ ap (whose_stop s c.args.resumptions.now (here c.args.self.now start)) (sym c.in-None.is))
    c.chosen_here.ensures.chosen

pub returns-in-Some-clause-same : goal.returns-in-Some-clause-same
returns-in-Some-clause-same c = same_itself c.args.self.now
