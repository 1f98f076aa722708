use Rattle.proc_table.proofs.Standing.{living_shown}
use Rattle.proc_table.proofs.processes.Processes.count.Goals as goal

pub returns : goal.returns
returns c = living_shown c.self.view_is c.self.invariant
