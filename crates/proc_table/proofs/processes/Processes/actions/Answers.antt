use Rattle.std.proofs.Common.{◌≡◌, refl}
use Rattle.proc_table.proofs.Lengths.{index_of}
use Rattle.proc_table.proofs.Standing.{lives, of_belongings, within_belongings}
use Rattle.proc_table.proofs.processes.Processes.actions.Goals as goal

pub place_of-requires : goal.place_of-requires
place_of-requires c = lives c.self.view_is c.self.invariant c.args.pid c.requires

pub index-requires : goal.index-requires
index-requires c = index_of c.self.inside.belongings
    (within_belongings c.self.view_is c.self.invariant c.args.pid c.place_of.ensures)

pub returns : goal.returns
returns c = of_belongings c.self.view_is c.self.invariant c.args.pid c.place_of.ensures
    (λ ends actions. c.index.result.now.actions ≡ actions) c.index.ensures refl
