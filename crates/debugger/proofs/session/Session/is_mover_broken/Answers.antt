use Rattle.std.proofs.Common.{◌≡◌, ℕ, Option, false, ap, sym, ◌∙◌}
use Rattle.std.specs.Option.{option_map_or}
use Rattle.dos_world.specs.World.{World, thread_at}
use Rattle.debug_session.specs.Hits.{is_thread_broken}
use Rattle.debug_session.specs.Sessions.{Session}
use Rattle.debug_client.specs.Clients.{session_of}
use Rattle.debugger.specs.Standing.{here}
use Rattle.debugger.proofs.Seen.{of_asked}
use Rattle.debugger.proofs.session.Session.is_mover_broken.Goals as goal

pub returns-in-Some : goal.returns-in-Some
returns-in-Some c start s is_start asked =
    let t = c.in-Some.thread in
    of_asked _ _ c.self.view_is c.self.invariant c.requires c.state.result.now
    c.state.ensures.state start is_start s asked
    (λ (u : Session) (w : World). c.is_thread_broken.result
    ≡ is_thread_broken u (thread_at w t))
    (λ r q o e. c.is_thread_broken.ensures q o e
    (session_of c.self.inside.client r s.position) (sym c.breakpoints.ensures))
    ∙ ap (λ (m : Option ℕ). option_map_or (λ n. is_thread_broken s
    (thread_at (here c.args.self.now start).moment.world n)) m false) (sym c.in-Some.is)
