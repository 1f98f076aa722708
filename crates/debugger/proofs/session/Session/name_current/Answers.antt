use Rattle.std.proofs.Common.{◌≡◌, ◌∙◌, ap, sym, codes}
use Rattle.std.proofs.lemmas.Result.{on_ok_weaker}
use Rattle.debug_client.specs.Clients.{session_of}
use Rattle.debug_connection.specs.Keeping.{texts_of}
use Rattle.debug_session.specs.Current.{named_current}
use Rattle.debug_session.specs.Resuming.{replies_one}
use Rattle.debug_session.specs.Sessions.{Session}
use Rattle.debugger.specs.Standing.{SessionView}
use Rattle.debugger.proofs.Clients.{named_told, ready_alike}
use Rattle.debugger.proofs.Telling.{answers_on, client_so, some_so}
use Rattle.debugger.proofs.session.Session.name_current.Goals as goal

pub invariant_of-self : goal.invariant_of-self
invariant_of-self c running =
    ready_alike _ c.name_current.new.self (c.self.invariant running)
    (some_so c.self.view_is c.state.result.now
    (c.state.ensures.state ∙ ap (λ (x : SessionView). x.playback.walk.state) c.self.view_is)
    c.self.invariant
    c.in_ok-know_current.ensures.failed c.histories_start.ensures
    (c.name_current.new.self.told ≡ c.self.inside.client.told)
    (λ r at q output error h.
    ap (λ (s : Session). s.told) (c.name_current.ensures r at q output error h.births h.world)
    ∙ named_told (session_of c.self.inside.client r at) c.args.id))

pub returns : goal.returns
returns c =
    on_ok_weaker c.say.result
    (λ put.
    answers_on c.args.self.now c.know_current.new.self _ (texts_of c.args.replies.now.items)
    (texts_of c.say.new.replies.items) (λ s. replies_one (named_current s c.args.id) (codes "OK"))
    c.in_ok-know_current.ensures.same c.in_ok-know_current.ensures.moves
    c.in_ok-know_current.ensures.failed
    (client_so c.self.view_is c.state.result.now
    (c.state.ensures.state ∙ ap (λ (x : SessionView). x.playback.walk.state) c.self.view_is)
    c.self.invariant
    c.in_ok-know_current.ensures.failed c.name_current.new.self (texts_of c.args.replies.now.items)
    (texts_of c.say.new.replies.items)
    (λ s. replies_one (named_current s c.args.id) (codes "OK")) (codes "OK") put
    (λ r at q output error h.
    ap (λ (s : Session). replies_one s (codes "OK"))
    (sym (c.name_current.ensures r at q output error h.births h.world)))))
    c.say.ensures
