use Rattle.std.proofs.Common.{◌≡◌, ℕ, ◌∷◌, [], ◌++◌, ◌∙◌, ap, sym}
use Rattle.dos_world.specs.World.{World}
use Rattle.kernel_calls.specs.StateWorld.{world_of}
use Rattle.debug_connection.specs.Keeping.{texts_of}
use Rattle.debug_session.specs.Answers.{stretch_told}
use Rattle.debug_session.specs.Told.{memory_told}
use Rattle.debugger.proofs.Telling.{said_alone, shown_so}
use Rattle.debugger.proofs.Unsent.{memory_unsent}
use Rattle.debugger.proofs.session.Session.say_memory.Goals as goal

pub returns : goal.returns
returns c =
    let part = c.args.part in
    shown_so c.self.view_is c.state.result.now c.state.ensures.state c.self.invariant c.requires
    (λ s. texts_of c.push.new.self.items
    ≡ texts_of c.args.replies.now.items ++ stretch_told s part ∷ [])
    (λ r at q output error h.
    let w : World = world_of q c.state.result.now in
    let p : ℕ = c.self.inside.client.process in
    said_alone _ _ _ _ _ _ c.in_ok-push.ensures.items (c.in_ok-put_memory.ensures q)
    c.new-text.ensures.items
    (ap (λ (n : ℕ). memory_told w n part.length part.from) c.process.ensures
    ∙ sym (memory_unsent output error w p part.length part.from)
    ∙ ap (λ (v : World). memory_told v p part.length part.from) (sym h.world)))
