use Rattle.std.proofs.Common.{ap}
use Rattle.dos_world.specs.DescriptorCalls.{with_end}
use Rattle.proc_table.specs.Places.{holdings_by}
use Rattle.proc_table.proofs.Lengths.{index_of}
use Rattle.proc_table.proofs.Standing.{belongings_written, lives, within_belongings}
use Rattle.proc_table.proofs.processes.Processes.set_descriptor.Goals as goal

pub place_of-place-requires : goal.place_of-place-requires
place_of-place-requires c = lives c.self.view_is c.self.invariant c.args.pid c.requires

pub index_mut-requires : goal.index_mut-requires
index_mut-requires c = index_of c.self.inside.belongings
    (within_belongings c.self.view_is c.self.invariant c.args.pid c.place_of-place.ensures)

pub invariant_of-self : goal.invariant_of-self
invariant_of-self c = (belongings_written c.self.view_is c.self.invariant c.args.pid
    c.place_of-place.ensures (with_end c.args.number c.args.end) c.index_mut.ensures.value
    (λ space. ap (λ ends. holdings_by (record c.index_mut.result.now { descriptors = ends }) space)
    c.set_end.ensures)).placed

pub returns : goal.returns
returns c = (belongings_written c.self.view_is c.self.invariant c.args.pid
    c.place_of-place.ensures (with_end c.args.number c.args.end) c.index_mut.ensures.value
    (λ space. ap (λ ends. holdings_by (record c.index_mut.result.now { descriptors = ends }) space)
    c.set_end.ensures)).shows
