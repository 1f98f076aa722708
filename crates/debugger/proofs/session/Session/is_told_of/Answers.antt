use Rattle.std.proofs.Common.{◌≡◌}
use Rattle.dos_world.specs.World.{World}
use Rattle.debug_session.specs.Sessions.{Session, is_told_of}
use Rattle.debugger.proofs.Seen.{of_asked, told_home}
use Rattle.debugger.proofs.session.Session.is_told_of.Goals as goal

pub returns-clause-told : goal.returns-clause-told
returns-clause-told c start s is_start asked =
    of_asked _ _ c.self.view_is c.self.invariant c.requires c.state.result.now
    c.state.ensures.state start is_start s asked
    (λ (u : Session) (w : World). c.is_told_of.result
    ≡ is_told_of u c.args.resumptions.now w c.args.thread)
    (λ r q o e. c.is_told_of.ensures r s.position q o e)

pub returns-clause-known : goal.returns-clause-known
returns-clause-known c told =
    told_home _ _ c.self.view_is c.self.invariant c.requires c.state.result.now
    c.state.ensures.state c.args.resumptions.now c.args.thread c.is_told_of.result
    (λ r at q o e. c.is_told_of.ensures r at q o e) told
