use Rattle.std.proofs.Common.{◌≡◌, ℕ, ◌∷◌, [], ◌++◌, ◌∙◌, ap, sym, subst, Bool}
use Rattle.dos_world.specs.World.{World, thread_at}
use Rattle.kernel_calls.specs.StateWorld.{world_of}
use Rattle.debug_client.specs.Clients.{session_of}
use Rattle.debug_connection.specs.Keeping.{texts_of}
use Rattle.debug_session.specs.Answers.{all_registers_told, is_current_listed}
use Rattle.debug_session.specs.Sessions.{Session}
use Rattle.debug_session.specs.Told.{registers_told}
use Rattle.debugger.specs.Standing.{SessionView, IsSessionOf}
use Rattle.debugger.proofs.Telling.{said_alone, shown_so}
use Rattle.debugger.proofs.session.Session.say_registers.Goals as goal

pub returns : goal.returns
returns c =
    shown_so c.self.view_is c.state.result.now c.state.ensures.state c.self.invariant c.requires
    (λ s. texts_of c.push.new.self.items
    ≡ texts_of c.args.replies.now.items ++ all_registers_told s ∷ [])
    (λ r at q output error h.
    let s : Session = session_of c.self.inside.client r at in
    let w : World = world_of q c.state.result.now in
    let shows : IsSessionOf c.args.self.now s =
    subst (λ (x : SessionView). IsSessionOf x s) c.self.view_is h.shows in
    said_alone _ _ _ _ _ _ c.in_ok-push.ensures.items (c.in_ok-put_registers.ensures q)
    c.new-text.ensures.items
    (ap (λ (b : Bool). registers_told b (thread_at w c.thread.result))
    (c.in_ok-is_listed.ensures s shows)
    ∙ ap (λ (t : ℕ). registers_told (is_current_listed s) (thread_at w t)) c.thread.ensures
    ∙ ap (λ (v : World). registers_told (is_current_listed s) (thread_at v s.thread))
    (sym h.world)))
