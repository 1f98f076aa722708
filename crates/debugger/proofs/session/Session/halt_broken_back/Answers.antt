use Rattle.std.proofs.Common.{Some, ap, ◌∙◌, sym}
use Rattle.debug_session.specs.Forwards.{halt_broken}
use Rattle.debug_session.specs.Halts.{halt_at}
use Rattle.debug_session.specs.Hits.{broken_by}
use Rattle.debug_session.specs.Positions.{mover_of, position_after}
use Rattle.debug_session.specs.Sessions.{Pair}
use Rattle.debug_session.specs.declared.stops.Cause.TheVariants.{Broke}
use Rattle.group_walk.specs.Walks.{kind_named}
use Rattle.debugger.specs.declared.halts.Halt.{Halt as Kept}
use Rattle.debugger.specs.Halting.{halt_meant}
use Rattle.debugger.proofs.Watching.{broken_none, broken_some, not_some}
use Rattle.debugger.proofs.session.Session.halt_broken_back.Goals as goal

pub returns-in_default-clause-halt : goal.returns-in_default-clause-halt
returns-in_default-clause-halt c rs start s is_start asked seen =
    let at = position_after c.args.before.now.moves start in
    ap (halt_broken s at)
    (sym (broken_none s rs at.moment.world (mover_of (kind_named c.args.before.now.kind))
    (sym seen.mover ∙ c.in_default.is)))

pub returns-then-not-before-clause-halt : goal.returns-then-not-before-clause-halt
returns-then-not-before-clause-halt c rs start s is_start asked seen =
    let at = position_after c.args.before.now.moves start in
    let mover = mover_of (kind_named c.args.before.now.kind) in
    ap (halt_broken s at)
    (sym (not_some (broken_by s rs at.moment.world mover)
    (sym seen.broken ∙ c.if-not-before.true)))

pub returns-clause-halt : goal.returns-clause-halt
returns-clause-halt c rs start s is_start asked seen =
    let at = position_after c.args.before.now.moves start in
    let mover = mover_of (kind_named c.args.before.now.kind) in
    ap (λ (h : Kept). Some (halt_meant s rs start h)) c.at.ensures
    ∙ ap (λ (p : Pair). Some (halt_at at p Broke)) (c.home_pair.ensures start s is_start asked)
    ∙ ap (halt_broken s at)
    (sym (broken_some s rs at.moment.world mover c.in-Some.thread
    (sym seen.mover ∙ c.in-Some.is) (sym seen.broken ∙ c.if-not-before.false)))
