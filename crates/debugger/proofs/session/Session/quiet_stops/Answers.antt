use Rattle.std.proofs.Common.{All, map, ap, subst, ◌∙◌}
use Rattle.debug_session.specs.declared.points.Breakpoint.{Breakpoint}
use Rattle.debugger.specs.Quiet.{IsForChanges}
use Rattle.debugger.specs.Standing.{SessionView}
use Rattle.debugger.proofs.Quieted.{quiet_for}
use Rattle.debugger.proofs.session.Session.quiet_stops.Goals as goal

pub returns : goal.returns
returns c start s asked =
    quiet_for c.args.self.now start s _
    (subst (All IsForChanges)
    (c.watchpoints.ensures ∙ ap (λ (a : SessionView). a.client.watchpoints) c.self.view_is)
    (c.are_for_changes.ensures c.if-not-are_for_changes.false))
    (c.in_ok-stops.ensures ∙ ap (map (λ (b : Breakpoint). b.address))
    (c.breakpoints.ensures
    ∙ ap (λ (a : SessionView). a.client.breakpoints) c.self.view_is))
    asked
