use Rattle.std.proofs.Common.{false, arith}
use Rattle.proc_table.proofs.Standing.{ended_added, given_shown}
use Rattle.proc_table.proofs.processes.Processes.restore_ended.Goals as goal

pub add-requires-clause-numbers : goal.add-requires-clause-numbers
add-requires-clause-numbers c =
    omega (arith, given_shown c.self.view_is c.self.invariant, c.requires.numbers)

pub add-requires-clause-parent : goal.add-requires-clause-parent
add-requires-clause-parent c =
    omega (arith, given_shown c.self.view_is c.self.invariant, c.requires.parent)

pub invariant_of-self : goal.invariant_of-self
invariant_of-self c = (ended_added c.self.view_is c.self.invariant c.args.parent c.args.status
    false c.add.ensures).placed

pub returns : goal.returns
returns c = (ended_added c.self.view_is c.self.invariant c.args.parent c.args.status
    false c.add.ensures).shows
