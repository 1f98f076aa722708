use Rattle.space_map.specs.Mapping.{without_run}
use Rattle.proc_table.proofs.Lengths.{index_of}
use Rattle.proc_table.proofs.Standing.{lives, space_written, within_spaces}
use Rattle.proc_table.proofs.processes.Processes.remove_run.Goals as goal

pub place_of-place-requires : goal.place_of-place-requires
place_of-place-requires c = lives c.self.view_is c.self.invariant c.args.pid c.requires

pub index_mut-requires : goal.index_mut-requires
index_mut-requires c = index_of c.self.inside.spaces
    (within_spaces c.self.view_is c.self.invariant c.args.pid c.place_of-place.ensures)

pub invariant_of-self : goal.invariant_of-self
invariant_of-self c = (space_written c.self.view_is c.self.invariant c.args.pid
    c.place_of-place.ensures (without_run c.args.page c.args.count)
    c.index_mut.ensures.value c.remove_run.ensures).placed

pub returns : goal.returns
returns c = (space_written c.self.view_is c.self.invariant c.args.pid
    c.place_of-place.ensures (without_run c.args.page c.args.count)
    c.index_mut.ensures.value c.remove_run.ensures).shows
