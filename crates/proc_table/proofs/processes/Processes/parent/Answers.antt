use Rattle.std.proofs.Common.{◌≡◌, refl}
use Rattle.proc_table.proofs.Standing.{given_record, of_record}
use Rattle.proc_table.proofs.processes.Processes.parent.Goals as goal

pub get-requires : goal.get-requires
get-requires c = given_record c.self.view_is c.self.invariant c.args.pid c.requires

pub returns : goal.returns
returns c = of_record c.self.view_is c.self.invariant c.args.pid
    (λ process. c.get.result.now.parent ≡ process.parent) c.get.ensures refl
