use Rattle.std.proofs.Common.{◌≡◌, ℕ, ◌∷◌, [], ◌++◌, ◌∙◌, ap, sym, subst, Bool}
use Rattle.dos_world.specs.World.{World, thread_at}
use Rattle.kernel_calls.specs.StateWorld.{world_of}
use Rattle.debug_client.specs.Clients.{session_of}
use Rattle.debug_connection.specs.Keeping.{texts_of}
use Rattle.debug_session.specs.Answers.{is_current_listed, one_register_told}
use Rattle.debug_session.specs.Sessions.{Session}
use Rattle.debug_session.specs.Told.{register_told}
use Rattle.debugger.specs.Standing.{SessionView, IsSessionOf}
use Rattle.debugger.proofs.Telling.{said_alone, shown_so}
use Rattle.debugger.proofs.session.Session.say_register.Goals as goal

pub returns : goal.returns
returns c =
    let n = c.args.number in
    shown_so c.self.view_is c.state.result.now c.state.ensures.state c.self.invariant c.requires
    (λ s. texts_of c.push.new.self.items
    ≡ texts_of c.args.replies.now.items ++ one_register_told s n ∷ [])
    (λ r at q output error h.
    let s : Session = session_of c.self.inside.client r at in
    let w : World = world_of q c.state.result.now in
    let shows : IsSessionOf c.args.self.now s =
    subst (λ (x : SessionView). IsSessionOf x s) c.self.view_is h.shows in
    said_alone _ _ _ _ _ _ c.in_ok-push.ensures.items (c.in_ok-put_register.ensures q)
    c.new-text.ensures.items
    (ap (λ (b : Bool). register_told b (thread_at w c.thread.result) n)
    (c.in_ok-is_listed.ensures s shows)
    ∙ ap (λ (t : ℕ). register_told (is_current_listed s) (thread_at w t) n) c.thread.ensures
    ∙ ap (λ (v : World). register_told (is_current_listed s) (thread_at v s.thread) n)
    (sym h.world)))
