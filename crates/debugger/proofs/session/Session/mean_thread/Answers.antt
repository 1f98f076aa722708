use Rattle.std.proofs.Common.{◌≡◌, ℕ, List, ◌∷◌, [], ◌++◌, Some, ◌∙◌, ap, sym}
use Rattle.std.proofs.lemmas.Result.{on_ok_weaker}
use Rattle.debug_client.specs.Clients.{done_text, session_of}
use Rattle.debug_connection.specs.Keeping.{texts_of}
use Rattle.debug_session.specs.Answers.{means}
use Rattle.debug_session.specs.Resuming.{Answered}
use Rattle.debugger.proofs.Clients.{means_told, ready_alike}
use Rattle.debugger.proofs.Telling.{client_so, meant, some_so}
use Rattle.debugger.proofs.session.Session.mean_thread.Goals as goal

pub invariant_of-self : goal.invariant_of-self
invariant_of-self c running =
    ready_alike _ c.mean-done.new.self (c.self.invariant running)
    (some_so c.self.view_is c.state.result.now c.state.ensures.state c.self.invariant
    c.requires c.histories_start.ensures
    (c.mean-done.new.self.told ≡ c.self.inside.client.told)
    (λ r at q output error h.
    ap (λ (a : Answered). a.0.told)
    (meant c.self.inside.client c.mean-done.new.self r at c.deref.result.now c.args.thread
    c.is_listed.result c.mean-done.result c.is_listed.ensures
    (c.deref.ensures.value ∙ c.in_ok-listed.ensures r at q output error h.births h.world)
    (c.mean-done.ensures r at))
    ∙ means_told (session_of c.self.inside.client r at) (Some c.args.thread)))

pub returns : goal.returns
returns c =
    on_ok_weaker c.say.result
    (λ put.
    client_so c.self.view_is c.state.result.now c.state.ensures.state c.self.invariant
    c.requires c.mean-done.new.self (texts_of c.args.replies.now.items)
    (texts_of c.say.new.replies.items) (λ s. means s (Some c.args.thread))
    (done_text c.mean-done.result)
    (put ∙ ap (λ (t : List ℕ). texts_of c.args.replies.now.items ++ t ∷ [])
    c.done_text.ensures)
    (λ r at q output error h.
    sym (meant c.self.inside.client c.mean-done.new.self r at c.deref.result.now c.args.thread
    c.is_listed.result c.mean-done.result c.is_listed.ensures
    (c.deref.ensures.value ∙ c.in_ok-listed.ensures r at q output error h.births h.world)
    (c.mean-done.ensures r at))))
    c.say.ensures
