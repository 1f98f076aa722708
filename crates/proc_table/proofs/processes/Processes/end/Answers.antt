use Rattle.std.proofs.Common.{arith}
use Rattle.proc_table.proofs.Standing.{ended_standing, lives, one_lives, within}
use Rattle.proc_table.proofs.processes.Processes.end.Goals as goal

pub place_of-place-requires : goal.place_of-place-requires
place_of-place-requires c = lives c.self.view_is c.self.invariant c.args.pid c.requires

pub bounds-self-inside-place : goal.bounds-self-inside-place
bounds-self-inside-place c =
    within c.self.view_is c.self.invariant c.args.pid c.place_of-place.ensures

pub offset_bounds-self-inside-place : goal.offset_bounds-self-inside-place
offset_bounds-self-inside-place c =
    omega (arith, within c.self.view_is c.self.invariant c.args.pid c.place_of-place.ensures)

pub overflow_sub-self : goal.overflow_sub-self
overflow_sub-self c = one_lives c.self.view_is c.self.invariant c.args.pid c.place_of-place.ensures

pub end-requires : goal.end-requires
end-requires c = lives c.self.view_is c.self.invariant c.args.pid c.requires

pub invariant_of-self : goal.invariant_of-self
invariant_of-self c = (ended_standing c.self.view_is c.self.invariant c.args.pid
    c.place_of-place.ensures c.args.status c.end.ensures).placed

pub returns : goal.returns
returns c = (ended_standing c.self.view_is c.self.invariant c.args.pid
    c.place_of-place.ensures c.args.status c.end.ensures).shows
