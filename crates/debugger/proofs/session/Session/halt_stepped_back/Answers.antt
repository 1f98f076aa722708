use Rattle.std.proofs.Common.{Some, ap, ◌∙◌, sym}
use Rattle.debug_session.specs.Positions.{mover_of, position_after}
use Rattle.group_walk.specs.Walks.{kind_named}
use Rattle.debugger.specs.declared.halts.Halt.{Halt as Kept}
use Rattle.debugger.specs.Halting.{halt_meant}
use Rattle.debugger.proofs.Backing.{its_move, no_mover, no_step, other_mover}
use Rattle.debugger.proofs.session.Session.halt_stepped_back.Goals as goal

pub returns-in_default-clause-halt : goal.returns-in_default-clause-halt
returns-in_default-clause-halt c rs start s is_start asked =
    no_step s (position_after c.args.before.now.moves start) c.args.stepped
    (mover_of (kind_named c.args.before.now.kind)) c.in_default.is

pub returns-in_default-mover_of-clause-halt : goal.returns-in_default-mover_of-clause-halt
returns-in_default-mover_of-clause-halt c rs start s is_start asked =
    no_mover s (position_after c.args.before.now.moves start) c.args.stepped
    (mover_of (kind_named c.args.before.now.kind)) c.in-Some.thread c.in-Some.is
    (sym c.mover_of.ensures ∙ c.in_default-mover_of.is)

pub returns-then-mover-thread-clause-halt : goal.returns-then-mover-thread-clause-halt
returns-then-mover-thread-clause-halt c rs start s is_start asked =
    other_mover s (position_after c.args.before.now.moves start) c.args.stepped
    (mover_of (kind_named c.args.before.now.kind)) c.in-Some.thread c.in-Some-mover_of.mover
    c.in-Some.is (sym c.in-Some-mover_of.ensures) c.if-mover-thread.true

pub returns-clause-halt : goal.returns-clause-halt
returns-clause-halt c rs start s is_start asked =
    ap (λ (h : Kept). Some (halt_meant s rs start h)) c.at.ensures
    ∙ its_move s (position_after c.args.before.now.moves start) c.args.stepped
    (mover_of (kind_named c.args.before.now.kind)) c.in-Some.thread c.in-Some-mover_of.mover
    c.home_pair.result c.in-Some.is (sym c.in-Some-mover_of.ensures)
    c.if-mover-thread.false (c.home_pair.ensures start s is_start asked)
