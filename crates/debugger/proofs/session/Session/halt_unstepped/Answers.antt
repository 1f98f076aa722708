use Rattle.std.proofs.Common.{ap, sym, ◌∙◌, Some, None, Bool}
use Rattle.std.specs.Prelude.{if◌then◌else◌}
use Rattle.debug_session.specs.Halts.{Halt, halt_at}
use Rattle.debug_session.specs.Positions.{position_after}
use Rattle.debug_session.specs.Sessions.{chosen_at}
use Rattle.debug_session.specs.declared.stops.Cause.TheVariants.{Plainly}
use Rattle.debugger.specs.Standing.{SessionView, here}
use Rattle.debugger.proofs.Onward.{meant_at, unstepped_by}
use Rattle.debugger.proofs.session.Session.halt_unstepped.Goals as goal

pub returns-then-not-is_stepping_nobody-clause-halt :
    goal.returns-then-not-is_stepping_nobody-clause-halt
returns-then-not-is_stepping_nobody-clause-halt c start s is_start asked =
    let at = here c.args.self.now start in
    let rs = c.args.resumptions.now in
    sym (unstepped_by s rs at at c.is_stepping_nobody.result
    (c.is_stepping_nobody.ensures start is_start)
    ∙ ap (λ (b : Bool). if b then Some (halt_at at (chosen_at s rs at) Plainly) else None)
    c.if-not-is_stepping_nobody.true)

pub returns-clause-halt : goal.returns-clause-halt
returns-clause-halt c start s is_start asked =
    let at = here c.args.self.now start in
    let rs = c.args.resumptions.now in
    ap (λ (h : Halt). Some h) (meant_at s rs start c.at.result c.moves.result None Plainly
    c.at.ensures)
    ∙ ap (λ n. Some (halt_at (position_after n start)
    (chosen_at s rs (position_after n start)) Plainly))
    (c.moves.ensures.moves ∙ ap (λ (k : SessionView). k.playback.moves) c.self.view_is)
    ∙ sym (unstepped_by s rs at at c.is_stepping_nobody.result
    (c.is_stepping_nobody.ensures start is_start)
    ∙ ap (λ (b : Bool). if b then Some (halt_at at (chosen_at s rs at) Plainly) else None)
    c.if-not-is_stepping_nobody.false)
