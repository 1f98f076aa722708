use Rattle.proc_table.proofs.Lengths.{index_of}
use Rattle.proc_table.proofs.Standing.{belongings_copied, holds, lives, within_belongings}
use Rattle.proc_table.proofs.processes.Processes.copy_held.Goals as goal

pub place_of-source-requires : goal.place_of-source-requires
place_of-source-requires c = lives c.self.view_is c.self.invariant c.args.from c.requires.from

pub place_of-place-requires : goal.place_of-place-requires
place_of-place-requires c = lives c.self.view_is c.self.invariant c.args.to c.requires.to

pub index-belongings-requires : goal.index-belongings-requires
index-belongings-requires c = index_of c.self.inside.belongings
    (within_belongings c.self.view_is c.self.invariant c.args.from c.place_of-source.ensures)

pub index_mut-requires : goal.index_mut-requires
index_mut-requires c = index_of c.self.inside.belongings
    (within_belongings c.self.view_is c.self.invariant c.args.to c.place_of-place.ensures)

pub invariant_of-self : goal.invariant_of-self
invariant_of-self c =
    (belongings_copied c.self.view_is c.self.invariant c.args.to c.place_of-place.ensures
    (within_belongings c.self.view_is c.self.invariant c.args.from c.place_of-source.ensures)
    c.index_mut.ensures.value c.index-belongings.ensures).placed

pub returns : goal.returns
returns c = rw (holds c.self.view_is c.self.invariant c.args.from c.place_of-source.ensures)
    (belongings_copied c.self.view_is c.self.invariant c.args.to c.place_of-place.ensures
    (within_belongings c.self.view_is c.self.invariant c.args.from c.place_of-source.ensures)
    c.index_mut.ensures.value c.index-belongings.ensures).shows
