use Rattle.std.proofs.Common.{◌≡◌, ℕ, List, drop}
use Rattle.std.specs.Prelude.{find}
use Rattle.dos_world.specs.World.{live_threads}
use Rattle.kernel_calls.specs.StateWorld.{world_of, sent}
use Rattle.debug_session.specs.Positions.{Position}
use Rattle.debug_session.specs.Recordings.{Recording}
use Rattle.debug_session.specs.Sessions.{is_told_of}
use Rattle.debug_client.specs.Clients.{session_of}
use Rattle.debug_client.proofs.client.Client.lowest_told.Given as goal

abbrev pub invariant-loop-place : goal.invariant-loop-place
invariant-loop-place l = (r : Recording) (at : Position) (q : ℕ) (output error : List ℕ)
    → find (is_told_of (session_of l.self r at) l.resumptions
    (sent output error (world_of q l.state)))
    (drop l.place (live_threads (sent output error (world_of q l.state))))
    ≡ find (is_told_of (session_of l.self r at) l.resumptions
    (sent output error (world_of q l.state)))
    (live_threads (sent output error (world_of q l.state)))
