use Rattle.std.proofs.Common.{◌≡◌, ◌+◌, ◌≤◌, length, false}
use Rattle.std.specs.List.{list_any}
use Rattle.space_map.specs.Mapping.{in_run, put_run}
use Rattle.proc_table.proofs.Lengths.{index_of}
use Rattle.proc_table.proofs.Standing.{in_space, lives, space_written, within_spaces}
use Rattle.proc_table.proofs.processes.Processes.put_run.Goals as goal

pub place_of-place-requires : goal.place_of-place-requires
place_of-place-requires c = lives c.self.view_is c.self.invariant c.args.pid c.requires.live

pub index_mut-requires : goal.index_mut-requires
index_mut-requires c = index_of c.self.inside.spaces
    (within_spaces c.self.view_is c.self.invariant c.args.pid c.place_of-place.ensures)

pub put_run-requires-clause-unmapped : goal.put_run-requires-clause-unmapped
put_run-requires-clause-unmapped c = in_space c.self.view_is c.self.invariant c.args.pid
    c.place_of-place.ensures
    (λ entries room. list_any (in_run c.args.page c.args.count) entries ≡ false)
    c.index_mut.ensures.value c.requires.unmapped

pub put_run-requires-clause-room : goal.put_run-requires-clause-room
put_run-requires-clause-room c = in_space c.self.view_is c.self.invariant c.args.pid
    c.place_of-place.ensures (λ entries room. length entries + c.args.count ≤ room)
    c.index_mut.ensures.value c.requires.room

pub invariant_of-self : goal.invariant_of-self
invariant_of-self c = (space_written c.self.view_is c.self.invariant c.args.pid
    c.place_of-place.ensures (put_run c.args.page c.args.count c.args.entry)
    c.index_mut.ensures.value c.put_run.ensures).placed

pub returns : goal.returns
returns c = (space_written c.self.view_is c.self.invariant c.args.pid
    c.place_of-place.ensures (put_run c.args.page c.args.count c.args.entry)
    c.index_mut.ensures.value c.put_run.ensures).shows
