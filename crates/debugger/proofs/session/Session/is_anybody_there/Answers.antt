use Rattle.std.proofs.Common.{ap, ◌∙◌}
use Rattle.debug_session.specs.Sessions.{is_anybody_there}
use Rattle.debug_client.specs.Births.{knows_named}
use Rattle.debugger.specs.Standing.{SessionView}
use Rattle.debugger.proofs.Shown.{seen_by}
use Rattle.debugger.proofs.session.Session.is_anybody_there.Goals as goal

pub is_anybody_there-requires : goal.is_anybody_there-requires
is_anybody_there-requires c =
    ap (λ (k : SessionView). knows_named k.births c.args.resumptions.now) c.self.view_is
    ∙ c.requires.named

pub returns : goal.returns
returns c =
    seen_by _ c.args.self.now c.self.view_is c.self.invariant c.requires.running
    (λ s w. is_anybody_there s c.args.resumptions.now w) c.is_anybody_there.result
    c.state.result.now c.state.ensures.state c.is_anybody_there.ensures
