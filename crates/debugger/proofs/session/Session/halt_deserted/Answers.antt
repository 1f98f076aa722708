use Rattle.std.proofs.Common.{ap, sym, ◌∙◌, Some, None}
use Rattle.debug_session.specs.Halts.{Halt}
use Rattle.debug_session.specs.Positions.{position_after}
use Rattle.debug_session.specs.declared.stops.Cause.TheVariants.{ReachedEnd}
use Rattle.debugger.specs.Standing.{here}
use Rattle.debugger.proofs.Onward.{deserted_never, deserted_not, deserted_now, meant_at}
use Rattle.debugger.proofs.session.Session.halt_deserted.Goals as goal

pub returns-then-not-way-clause-halt : goal.returns-then-not-way-clause-halt
returns-then-not-way-clause-halt c start s is_start asked =
    sym (deserted_never s c.args.resumptions.now (position_after c.args.way.now.last start)
    (here c.args.self.now start) c.args.way.now.was_there c.if-not-way.true)

pub returns-then-is_anybody_there-clause-halt : goal.returns-then-is_anybody_there-clause-halt
returns-then-is_anybody_there-clause-halt c start s is_start asked =
    sym (deserted_not s c.args.resumptions.now (position_after c.args.way.now.last start)
    (here c.args.self.now start) c.args.way.now.was_there c.is_anybody_there.result
    c.if-not-way.false (c.is_anybody_there.ensures start s is_start asked)
    c.if-is_anybody_there.true)

pub returns-clause-halt : goal.returns-clause-halt
returns-clause-halt c start s is_start asked =
    ap (λ (h : Halt). Some h) (meant_at s c.args.resumptions.now start c.at.result
    c.args.way.now.last None ReachedEnd c.at.ensures)
    ∙ sym (deserted_now s c.args.resumptions.now (position_after c.args.way.now.last start)
    (here c.args.self.now start) c.args.way.now.was_there c.is_anybody_there.result
    c.if-not-way.false (c.is_anybody_there.ensures start s is_start asked)
    c.if-is_anybody_there.false)
