use Rattle.std.proofs.Common.{◌≡◌, ◌∷◌, [], ◌++◌, ◌∙◌, ap}
use Rattle.debug_connection.specs.Keeping.{texts_of}
use Rattle.debug_session.specs.Lists.{pairs_told, threads_told}
use Rattle.debugger.proofs.Telling.{said_alone, shown_so}
use Rattle.debugger.proofs.session.Session.say_threads.Goals as goal

pub returns : goal.returns
returns c =
    shown_so c.self.view_is c.state.result.now c.state.ensures.state c.self.invariant c.requires
    (λ s. texts_of c.push.new.self.items
    ≡ texts_of c.args.replies.now.items ++ threads_told s ∷ [])
    (λ r at q output error h.
    said_alone _ _ _ _ _ _ c.in_ok-push.ensures.items c.in_ok-put_threads.ensures
    c.new-text.ensures.items
    (ap pairs_told (c.deref.ensures.value
    ∙ c.in_ok-listed.ensures r at q output error h.births h.world)))
