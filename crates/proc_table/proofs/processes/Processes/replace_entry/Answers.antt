use Rattle.space_map.specs.Mapping.{IsMapped, with_replaced}
use Rattle.proc_table.proofs.Lengths.{index_of}
use Rattle.proc_table.proofs.Standing.{in_space, lives, space_written, within_spaces}
use Rattle.proc_table.proofs.processes.Processes.replace_entry.Goals as goal

pub place_of-place-requires : goal.place_of-place-requires
place_of-place-requires c = lives c.self.view_is c.self.invariant c.args.pid c.requires.live

pub index_mut-requires : goal.index_mut-requires
index_mut-requires c = index_of c.self.inside.spaces
    (within_spaces c.self.view_is c.self.invariant c.args.pid c.place_of-place.ensures)

pub replace-requires : goal.replace-requires
replace-requires c = in_space c.self.view_is c.self.invariant c.args.pid
    c.place_of-place.ensures (λ entries room. IsMapped entries c.args.page)
    c.index_mut.ensures.value c.requires.mapped

pub invariant_of-self : goal.invariant_of-self
invariant_of-self c = (space_written c.self.view_is c.self.invariant c.args.pid
    c.place_of-place.ensures (with_replaced c.args.page c.args.entry)
    c.index_mut.ensures.value c.replace.ensures).placed

pub returns : goal.returns
returns c = (space_written c.self.view_is c.self.invariant c.args.pid
    c.place_of-place.ensures (with_replaced c.args.page c.args.entry)
    c.index_mut.ensures.value c.replace.ensures).shows
