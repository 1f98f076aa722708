use Rattle.std.proofs.Common.{◌≡◌, ◌-◌}
use Rattle.std.specs.Prelude.{slice_index}
use Rattle.proc_table.proofs.Lengths.{index_of}
use Rattle.proc_table.proofs.Standing.{lives, of_belongings, within_belongings}
use Rattle.proc_table.proofs.processes.Processes.action.Goals as goal

pub place_of-requires : goal.place_of-requires
place_of-requires c = lives c.self.view_is c.self.invariant c.args.pid c.requires.live

pub index-requires : goal.index-requires
index-requires c = index_of c.self.inside.belongings
    (within_belongings c.self.view_is c.self.invariant c.args.pid c.place_of.ensures)

pub returns : goal.returns
returns c = of_belongings c.self.view_is c.self.invariant c.args.pid c.place_of.ensures
    (λ ends actions. c.action_at.result ≡ slice_index actions (c.args.signal - 1))
    c.index.ensures c.action_at.ensures
