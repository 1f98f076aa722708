use Rattle.debug_session.specs.Goals.{is_somebody_shown}
use Rattle.debugger.proofs.Shown.{seen_by}
use Rattle.debugger.proofs.session.Session.is_somebody_shown.Goals as goal

pub returns : goal.returns
returns c =
    seen_by _ c.args.self.now c.self.view_is c.self.invariant c.requires
    (λ s w. is_somebody_shown s w) c.is_somebody_shown.result
    c.state.result.now c.state.ensures.state
    (λ r at q o e known. c.is_somebody_shown.ensures r at q o e)
