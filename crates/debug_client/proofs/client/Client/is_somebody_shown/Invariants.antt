use Rattle.std.proofs.Common.{◌≡◌, ◌+◌, ◌-◌, ℕ, List, length}
use Rattle.std.specs.Prelude.{◌&&◌}
use Rattle.std.specs.List.{list_any}
use Rattle.dos_world.specs.Numbered.{run_of}
use Rattle.kernel_calls.specs.StateWorld.{world_of, sent}
use Rattle.debug_session.specs.Positions.{Position}
use Rattle.debug_session.specs.Recordings.{Recording}
use Rattle.debug_session.specs.Sessions.{is_process_live, is_shown}
use Rattle.debug_session.specs.Goals.{is_somebody_shown}
use Rattle.debug_client.specs.Clients.{session_of}
use Rattle.debug_client.proofs.client.Client.is_somebody_shown.Given as goal

abbrev pub invariant-loop-place : goal.invariant-loop-place
invariant-loop-place l = (r : Recording) (at : Position) (q : ℕ) (output error : List ℕ)
    → list_any (λ p. is_process_live (sent output error (world_of q l.state)) p
    && is_shown (session_of l.self r at) (sent output error (world_of q l.state)) p)
    (run_of (1 + l.place) (length l.state.table.processes - l.place))
    ≡ is_somebody_shown (session_of l.self r at) (sent output error (world_of q l.state))
