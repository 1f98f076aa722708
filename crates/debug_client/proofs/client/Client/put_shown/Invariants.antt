use Rattle.std.proofs.Common.{◌≡◌, ◌++◌, ℕ, List, drop, filter}
use Rattle.dos_world.specs.World.{live_threads}
use Rattle.kernel_calls.specs.StateWorld.{world_of, sent}
use Rattle.debug_session.specs.Positions.{Position}
use Rattle.debug_session.specs.Recordings.{Recording}
use Rattle.debug_session.specs.Sessions.{is_thread_shown}
use Rattle.debug_client.specs.Clients.{session_of}
use Rattle.debug_client.proofs.client.Client.put_shown.Given as goal

abbrev pub invariant-loop-place : goal.invariant-loop-place
invariant-loop-place l = (r : Recording) (at : Position) (q : ℕ) (output error : List ℕ)
    → l.numbers.items ++ filter (is_thread_shown (session_of l.self r at)
    (sent output error (world_of q l.state)))
    (drop l.place (live_threads (sent output error (world_of q l.state))))
    ≡ l.fn.numbers.items ++ filter (is_thread_shown (session_of l.self r at)
    (sent output error (world_of q l.state)))
    (live_threads (sent output error (world_of q l.state)))
