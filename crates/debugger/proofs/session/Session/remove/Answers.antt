use Rattle.std.proofs.Common.{◌≡◌, ◌∙◌, ap, sym, codes}
use Rattle.std.proofs.lemmas.Result.{on_ok_weaker}
use Rattle.debug_client.specs.Clients.{session_of}
use Rattle.debug_connection.specs.Keeping.{texts_of}
use Rattle.debug_session.specs.Resuming.{replies_one}
use Rattle.debug_session.specs.Sessions.{Session}
use Rattle.debug_session.specs.Setting.{removes}
use Rattle.debugger.specs.Standing.{SessionView}
use Rattle.debugger.proofs.Clients.{ready_alike, removed_told}
use Rattle.debugger.proofs.Telling.{client_so, some_so}
use Rattle.debugger.proofs.session.Session.remove.Goals as goal

pub invariant_of-self : goal.invariant_of-self
invariant_of-self c running =
    ready_alike _ c.remove.new.self (c.self.invariant running)
    (some_so c.self.view_is c.self.inside.playback.walk.state
    (ap (λ (x : SessionView). x.playback.walk.state) c.self.view_is) c.self.invariant
    c.requires c.histories_start.ensures
    (c.remove.new.self.told ≡ c.self.inside.client.told)
    (λ r at q output error h.
    ap (λ (s : Session). s.told) (c.remove.ensures r at)
    ∙ removed_told (session_of c.self.inside.client r at) c.args.point.kind c.args.point))

pub returns : goal.returns
returns c =
    on_ok_weaker c.say.result
    (λ put.
    client_so c.self.view_is c.self.inside.playback.walk.state
    (ap (λ (x : SessionView). x.playback.walk.state) c.self.view_is) c.self.invariant
    c.requires c.remove.new.self (texts_of c.args.replies.now.items)
    (texts_of c.say.new.replies.items) (λ s. removes s c.args.point) (codes "OK") put
    (λ r at q output error h.
    ap (λ (s : Session). replies_one s (codes "OK")) (sym (c.remove.ensures r at))))
    c.say.ensures
