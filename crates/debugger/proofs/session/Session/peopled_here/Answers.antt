use Rattle.std.proofs.Common.{ap, sym, ◌∙◌, arith}
use Rattle.debug_session.specs.Positions.{position_after}
use Rattle.debugger.specs.Standing.{SessionView, here}
use Rattle.debugger.proofs.Reached.{peopled_here}
use Rattle.debugger.proofs.Shown.{ready_of}
use Rattle.debugger.proofs.session.Session.peopled_here.Goals as goal

pub returns-then-is_somebody_shown-clause-peopled :
    goal.returns-then-is_somebody_shown-clause-peopled
returns-then-is_somebody_shown-clause-peopled c start s is_start asked before =
    ap (λ n. position_after n start)
    (c.moves.ensures.moves ∙ ap (λ (k : SessionView). k.playback.moves) c.self.view_is)
    ∙ sym (peopled_here s (here c.args.self.now start)
    (sym (c.is_somebody_shown.ensures start s is_start asked) ∙ c.if-is_somebody_shown.true))

pub returns-then-is_somebody_shown-clause-within : goal.returns-then-is_somebody_shown-clause-within
returns-then-is_somebody_shown-clause-within c within =
    let ready = ready_of _ c.args.self.now c.self.view_is c.self.invariant c.requires in
    let behind = ready.behind in
    let moves = c.moves.ensures.moves
    ∙ ap (λ (k : SessionView). k.playback.moves) c.self.view_is in
    omega (arith, behind, moves)

pub returns-clause-peopled : goal.returns-clause-peopled
returns-clause-peopled c start s is_start asked before =
    before (sym (c.is_somebody_shown.ensures start s is_start asked) ∙ c.if-is_somebody_shown.false)
