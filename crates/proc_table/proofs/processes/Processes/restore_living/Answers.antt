use Rattle.std.proofs.Common.{sym, ◌∙◌, arith}
use Rattle.proc_table.proofs.Lengths.{index_of}
use Rattle.proc_table.proofs.Standing.{restored_standing, few_live, free_in_belongings}
use Rattle.proc_table.proofs.Standing.{free_in_spaces, free_within, given_shown, has_place}
use Rattle.proc_table.proofs.Standing.{room_shown}
use Rattle.proc_table.proofs.processes.Processes.restore_living.Goals as goal

pub unreachable-requires : goal.unreachable-requires
unreachable-requires c =
    has_place c.self.view_is c.self.invariant c.requires.room (sym c.in-None.ensures)

pub bounds-self-inside-place : goal.bounds-self-inside-place
bounds-self-inside-place c = free_within c.self.view_is c.self.invariant (sym c.in-Some.ensures)

pub offset_bounds-self-inside-place : goal.offset_bounds-self-inside-place
offset_bounds-self-inside-place c =
    omega (arith, free_within c.self.view_is c.self.invariant (sym c.in-Some.ensures))

pub index_mut-requires : goal.index_mut-requires
index_mut-requires c = index_of c.self.inside.spaces
    (free_in_spaces c.self.view_is c.self.invariant (sym c.in-Some.ensures))

pub index_mut-requires-2 : goal.index_mut-requires-2
index_mut-requires-2 c = index_of c.self.inside.belongings
    (free_in_belongings c.self.view_is c.self.invariant (sym c.in-Some.ensures))

pub overflow_add-self : goal.overflow_add-self
overflow_add-self c = omega (arith, few_live c.self.view_is c.self.invariant c.requires.room)

pub overflow_add-number : goal.overflow_add-number
overflow_add-number c = omega (
  arith,
  c.len-number.ensures,
  given_shown c.self.view_is c.self.invariant,
  c.requires.numbers,
)

pub add-requires-clause-numbers : goal.add-requires-clause-numbers
add-requires-clause-numbers c =
    omega (arith, given_shown c.self.view_is c.self.invariant, c.requires.numbers)

pub add-requires-clause-parent : goal.add-requires-clause-parent
add-requires-clause-parent c =
    omega (arith, given_shown c.self.view_is c.self.invariant, c.requires.parent)

pub invariant_of-self : goal.invariant_of-self
invariant_of-self c = (restored_standing c.self.view_is c.self.invariant (sym c.in-Some.ensures)
    c.args.parent c.args.space c.args.belongings c.len-number.ensures
    (c.requires.space ∙ sym (room_shown c.self.view_is c.self.invariant)) c.add.ensures).placed

pub returns : goal.returns
returns c = (restored_standing c.self.view_is c.self.invariant (sym c.in-Some.ensures)
    c.args.parent c.args.space c.args.belongings c.len-number.ensures
    (c.requires.space ∙ sym (room_shown c.self.view_is c.self.invariant)) c.add.ensures).shows
