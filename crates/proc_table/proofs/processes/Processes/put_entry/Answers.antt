use Rattle.std.proofs.Common.{◌≡◌, ◌<◌, length, None}
use Rattle.dos_world.specs.World.{look}
use Rattle.dos_world.specs.Kernel.{put}
use Rattle.proc_table.proofs.Lengths.{index_of}
use Rattle.proc_table.proofs.Standing.{in_space, lives, space_written, within_spaces}
use Rattle.proc_table.proofs.processes.Processes.put_entry.Goals as goal

pub place_of-place-requires : goal.place_of-place-requires
place_of-place-requires c = lives c.self.view_is c.self.invariant c.args.pid c.requires.live

pub index_mut-requires : goal.index_mut-requires
index_mut-requires c = index_of c.self.inside.spaces
    (within_spaces c.self.view_is c.self.invariant c.args.pid c.place_of-place.ensures)

pub put-requires-clause-unmapped : goal.put-requires-clause-unmapped
put-requires-clause-unmapped c = in_space c.self.view_is c.self.invariant c.args.pid
    c.place_of-place.ensures (λ entries room. look entries c.args.page ≡ None)
    c.index_mut.ensures.value c.requires.unmapped

pub put-requires-clause-room : goal.put-requires-clause-room
put-requires-clause-room c = in_space c.self.view_is c.self.invariant c.args.pid
    c.place_of-place.ensures (λ entries room. length entries < room)
    c.index_mut.ensures.value c.requires.room

pub invariant_of-self : goal.invariant_of-self
invariant_of-self c = (space_written c.self.view_is c.self.invariant c.args.pid
    c.place_of-place.ensures (put c.args.page c.args.entry) c.index_mut.ensures.value
    c.put.ensures).placed

pub returns : goal.returns
returns c = (space_written c.self.view_is c.self.invariant c.args.pid
    c.place_of-place.ensures (put c.args.page c.args.entry) c.index_mut.ensures.value
    c.put.ensures).shows
