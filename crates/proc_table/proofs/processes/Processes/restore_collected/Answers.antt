use Rattle.std.proofs.Common.{true, arith}
use Rattle.proc_table.proofs.Standing.{ended_added, given_shown}
use Rattle.proc_table.proofs.processes.Processes.restore_collected.Goals as goal

pub add_collected-requires-clause-numbers : goal.add_collected-requires-clause-numbers
add_collected-requires-clause-numbers c =
    omega (arith, given_shown c.self.view_is c.self.invariant, c.requires.numbers)

pub add_collected-requires-clause-parent : goal.add_collected-requires-clause-parent
add_collected-requires-clause-parent c =
    omega (arith, given_shown c.self.view_is c.self.invariant, c.requires.parent)

pub invariant_of-self : goal.invariant_of-self
invariant_of-self c = (ended_added c.self.view_is c.self.invariant c.args.parent c.args.status
    true c.add_collected.ensures).placed

pub returns : goal.returns
returns c = (ended_added c.self.view_is c.self.invariant c.args.parent c.args.status
    true c.add_collected.ensures).shows
