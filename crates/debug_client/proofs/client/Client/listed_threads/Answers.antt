use Rattle.std.proofs.Common.{ℕ, List, ◌++◌, filter, ap, ◌∙◌}
use Rattle.std.proofs.lemmas.Result.{IfOk-weaker}
use Rattle.dos_world.specs.World.{live_threads}
use Rattle.flat_machine.specs.Opening.{rising}
use Rattle.kernel_calls.specs.StateWorld.{world_of, sent}
use Rattle.debug_session.specs.Sessions.{is_thread_shown, absent_threads}
use Rattle.debug_client.specs.Clients.{session_of}
use Rattle.debug_client.proofs.client.Client.listed_threads.Goals as goal

pub returns : goal.returns
returns c =
    IfOk-weaker c.rising.result _ _ (λ all h r at q output error a.
    let w = sent output error (world_of q c.args.state.now) in
    let s = session_of c.args.self.now r at in
    h
    ∙ ap rising (c.deref.ensures.value
    ∙ c.in_ok-put_absent.ensures r at q output error a
    ∙ ap (λ (l : List ℕ). l ++ absent_threads s w)
    (c.in_ok-put_shown.ensures r at q output error
    ∙ ap (λ (l : List ℕ). l ++ filter (is_thread_shown s w) (live_threads w))
    c.new-numbers.ensures.items)))
    c.rising.ensures
