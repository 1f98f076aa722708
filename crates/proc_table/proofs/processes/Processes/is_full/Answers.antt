use Rattle.std.proofs.Common.{ap}
use Rattle.std.specs.Prelude.{nat_le}
use Rattle.proc_table.proofs.Standing.{living_shown}
use Rattle.proc_table.proofs.processes.Processes.is_full.Goals as goal

pub returns : goal.returns
returns c = ap (nat_le 32)
    (living_shown c.self.view_is c.self.invariant)
