use Rattle.std.proofs.Common.{◌≡◌, ℕ, List, ◌∷◌, [], ◌++◌, ◌∙◌, ap, sym}
use Rattle.dos_world.specs.World.{World}
use Rattle.kernel_calls.specs.StateWorld.{world_of}
use Rattle.debug_client.specs.Clients.{session_of}
use Rattle.debug_connection.specs.Keeping.{texts_of}
use Rattle.debug_session.specs.Answers.{current_world}
use Rattle.debug_session.specs.Lists.{listed_pairs, part_told, threads_text}
use Rattle.debug_session.specs.Sessions.{Session}
use Rattle.debugger.proofs.Telling.{said_alone, shown_so}
use Rattle.debugger.proofs.session.Session.say_thread_list.Goals as goal

pub returns : goal.returns
returns c =
    let part = c.args.part in
    let state = c.state-state.result.now in
    shown_so c.self.view_is state c.state-state.ensures.state c.self.invariant c.requires
    (λ s. texts_of c.push.new.self.items
    ≡ texts_of c.args.replies.now.items
    ++ part_told (threads_text (current_world s) (listed_pairs s)) part ∷ [])
    (λ r at q output error h.
    let s : Session = session_of c.self.inside.client r at in
    let w : World = world_of q state in
    let whole : c.deref-2.result.now ≡ threads_text w c.deref.result.now =
    c.deref-2.ensures.value ∙ c.in_ok-put_thread_list.ensures q
    ∙ ap (λ (t : List ℕ). t ++ threads_text w c.deref.result.now) c.new-whole.ensures.items in
    said_alone _ _ _ _ _ _ c.in_ok-push.ensures.items c.in_ok-put_part.ensures
    c.new-text.ensures.items
    (ap (λ (t : List ℕ). part_told t part)
    (whole
    ∙ ap (threads_text w) (c.deref.ensures.value
    ∙ c.in_ok-listed.ensures r at q output error h.births h.world)
    ∙ ap (λ (v : World). threads_text v (listed_pairs s)) (sym h.world))))
