use Rattle.std.proofs.Common.{refl}
use Rattle.proc_table.specs.Tables.{without_ends}
use Rattle.proc_table.proofs.Lengths.{index_of}
use Rattle.proc_table.proofs.Standing.{belongings_written, lives, within_belongings}
use Rattle.proc_table.proofs.processes.Processes.close_all.Goals as goal

pub place_of-place-requires : goal.place_of-place-requires
place_of-place-requires c = lives c.self.view_is c.self.invariant c.args.pid c.requires

pub index_mut-requires : goal.index_mut-requires
index_mut-requires c = index_of c.self.inside.belongings
    (within_belongings c.self.view_is c.self.invariant c.args.pid c.place_of-place.ensures)

pub invariant_of-self : goal.invariant_of-self
invariant_of-self c = (belongings_written c.self.view_is c.self.invariant c.args.pid
    c.place_of-place.ensures without_ends c.index_mut.ensures.value (λ space. refl)).placed

pub returns : goal.returns
returns c = (belongings_written c.self.view_is c.self.invariant c.args.pid
    c.place_of-place.ensures without_ends c.index_mut.ensures.value (λ space. refl)).shows
