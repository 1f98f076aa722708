use Rattle.std.proofs.Common.{◌∙◌, sym}
use Rattle.proc_table.proofs.Standing.{given_shown}
use Rattle.proc_table.proofs.processes.Processes.given.Goals as goal

pub returns : goal.returns
returns c = c.len.ensures
    ∙ sym (given_shown c.self.view_is c.self.invariant)
