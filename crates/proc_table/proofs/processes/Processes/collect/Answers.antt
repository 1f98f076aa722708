use Rattle.proc_table.proofs.Waits.{got_child, got_collected}
use Rattle.proc_table.proofs.processes.Processes.collect.Goals as goal

pub collect-requires : goal.collect-requires
collect-requires c =
    got_child c.self.view_is c.self.invariant c.args.parent c.args.which c.in-Got.ensures

pub invariant_of-self : goal.invariant_of-self
invariant_of-self c = (got_collected c.self.view_is c.self.invariant c.args.parent c.args.which
    c.in-Got.ensures c.collect.ensures).placed

pub returns-in-Got-clause-collects : goal.returns-in-Got-clause-collects
returns-in-Got-clause-collects c = (got_collected c.self.view_is c.self.invariant c.args.parent
    c.args.which c.in-Got.ensures c.collect.ensures).shows
