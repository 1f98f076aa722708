use Rattle.std.proofs.Common.{ap}
use Rattle.dos_world.specs.SignalCalls.{with_action}
use Rattle.proc_table.specs.Places.{holdings_by}
use Rattle.proc_table.proofs.Lengths.{index_of}
use Rattle.proc_table.proofs.Standing.{belongings_written, lives, within_belongings}
use Rattle.proc_table.proofs.processes.Processes.set_action.Goals as goal

pub place_of-place-requires : goal.place_of-place-requires
place_of-place-requires c = lives c.self.view_is c.self.invariant c.args.pid c.requires.live

pub index_mut-requires : goal.index_mut-requires
index_mut-requires c = index_of c.self.inside.belongings
    (within_belongings c.self.view_is c.self.invariant c.args.pid c.place_of-place.ensures)

pub invariant_of-self : goal.invariant_of-self
invariant_of-self c = (belongings_written c.self.view_is c.self.invariant c.args.pid
    c.place_of-place.ensures (with_action c.args.signal c.args.action) c.index_mut.ensures.value
    (λ space. ap (λ actions.
    holdings_by (record c.index_mut.result.now { actions = actions }) space)
    c.set_action_at.ensures)).placed

pub returns : goal.returns
returns c = (belongings_written c.self.view_is c.self.invariant c.args.pid
    c.place_of-place.ensures (with_action c.args.signal c.args.action) c.index_mut.ensures.value
    (λ space. ap (λ actions.
    holdings_by (record c.index_mut.result.now { actions = actions }) space)
    c.set_action_at.ensures)).shows
