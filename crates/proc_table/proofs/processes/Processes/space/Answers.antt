use Rattle.std.proofs.Common.{◌≡◌, refl}
use Rattle.proc_table.proofs.Lengths.{index_of}
use Rattle.proc_table.proofs.Standing.{lives, of_space, room_read, within_spaces}
use Rattle.proc_table.proofs.processes.Processes.space.Goals as goal

pub place_of-requires : goal.place_of-requires
place_of-requires c = lives c.self.view_is c.self.invariant c.args.pid c.requires

pub index-requires : goal.index-requires
index-requires c = index_of c.self.inside.spaces
    (within_spaces c.self.view_is c.self.invariant c.args.pid c.place_of.ensures)

pub returns-clause-entries : goal.returns-clause-entries
returns-clause-entries c = of_space c.self.view_is c.self.invariant c.args.pid c.place_of.ensures
    (λ entries. c.index.result.now.entries ≡ entries) c.index.ensures refl

pub returns-clause-room : goal.returns-clause-room
returns-clause-room c =
    room_read c.self.view_is c.self.invariant c.args.pid c.place_of.ensures c.index.ensures
