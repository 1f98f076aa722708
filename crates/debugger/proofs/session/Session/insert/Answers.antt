use Rattle.std.proofs.Common.{◌≡◌, ℕ, List, ◌∷◌, [], ◌++◌, ◌∙◌, ap, sym}
use Rattle.std.proofs.lemmas.Result.{on_ok_weaker}
use Rattle.debug_client.specs.Clients.{ClientView, done_text, session_of}
use Rattle.debug_connection.specs.Keeping.{texts_of}
use Rattle.debug_session.specs.Resuming.{Answered}
use Rattle.debug_session.specs.Setting.{inserts}
use Rattle.debugger.specs.Standing.{SessionView}
use Rattle.debugger.proofs.Clients.{inserts_told, ready_alike}
use Rattle.debugger.proofs.Telling.{client_so, some_so}
use Rattle.debugger.proofs.session.Session.insert.Goals as goal

pub invariant_of-self : goal.invariant_of-self
invariant_of-self c running =
    ready_alike _ c.insert.new.self (c.self.invariant running)
    (ap (λ (x : ClientView). x.told) c.in_err-done.ensures.err)

pub invariant_of-self-2 : goal.invariant_of-self-2
invariant_of-self-2 c running =
    ready_alike _ c.insert.new.self (c.self.invariant running)
    (some_so c.self.view_is c.self.inside.playback.walk.state
    (ap (λ (x : SessionView). x.playback.walk.state) c.self.view_is) c.self.invariant
    c.requires c.histories_start.ensures
    (c.insert.new.self.told ≡ c.self.inside.client.told)
    (λ r at q output error h.
    ap (λ (a : Answered). a.0.told) (c.in_ok-done.ensures.ok r at)
    ∙ inserts_told (session_of c.self.inside.client r at) c.args.point))

pub returns : goal.returns
returns c =
    on_ok_weaker c.say.result
    (λ put.
    client_so c.self.view_is c.self.inside.playback.walk.state
    (ap (λ (x : SessionView). x.playback.walk.state) c.self.view_is) c.self.invariant
    c.requires c.insert.new.self (texts_of c.args.replies.now.items)
    (texts_of c.say.new.replies.items) (λ s. inserts s c.args.point)
    (done_text c.in_ok-done.done)
    (put ∙ ap (λ (t : List ℕ). texts_of c.args.replies.now.items ++ t ∷ [])
    c.done_text.ensures)
    (λ r at q output error h. sym (c.in_ok-done.ensures.ok r at)))
    c.say.ensures
