use Rattle.std.proofs.Common.{ℕ, Option, ap, sym, ◌∙◌}
use Rattle.std.specs.Prelude.{unwrap_or}
use Rattle.dos_world.specs.World.{World, first_thread}
use Rattle.kernel_calls.specs.StateWorld.{world_of, sent}
use Rattle.debug_session.specs.Current.{absent_thread}
use Rattle.debug_client.specs.Clients.{session_of}
use Rattle.debug_client.proofs.client.Client.standing_thread.Goals as goal

pub returns-in-None : goal.returns-in-None
returns-in-None c r at q output error a is =
    let w = sent output error (world_of q c.args.state.now) in
    let s = session_of c.args.self.now r at in
    let p = c.args.process in
    c.absent_thread.ensures r at q output error a
    ∙ ap (λ (o : Option ℕ). unwrap_or o (absent_thread s w p)) c.in-None.ensures
    ∙ ap (λ (v : World). unwrap_or (first_thread v p) (absent_thread s v p)) (sym is)
