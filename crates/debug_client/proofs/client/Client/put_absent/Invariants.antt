use Rattle.std.proofs.Common.{◌≡◌, ◌++◌, ℕ, List, drop, filter, true}
use Rattle.std.specs.Prelude.{filter_map, is_none}
use Rattle.dos_world.specs.World.{live_process}
use Rattle.kernel_calls.specs.StateWorld.{world_of, sent}
use Rattle.debug_session.specs.Positions.{Position, all_moments}
use Rattle.debug_session.specs.Recordings.{Recording}
use Rattle.debug_session.specs.Homes.{birth_thread}
use Rattle.debug_session.specs.Sessions.{absent_threads}
use Rattle.debug_client.specs.Births.{AreBirthsKnown, has_processes}
use Rattle.debug_client.specs.Clients.{session_of}
use Rattle.debug_client.proofs.client.Client.put_absent.Given as goal

abbrev pub invariant-loop-process : goal.invariant-loop-process
invariant-loop-process l = record {
  known : has_processes l.births (drop l.process-index l.told) ≡ true;
  so_far : (r : Recording) (at : Position) (q : ℕ) (output error : List ℕ)
      → AreBirthsKnown l.births (all_moments at)
      → l.numbers.items ++ filter_map (birth_thread (all_moments at))
      (filter (λ p. is_none (live_process (sent output error (world_of q l.state)) p))
      (drop l.process-index l.told))
      ≡ l.fn.numbers.items ++ absent_threads (session_of l.self r at)
      (sent output error (world_of q l.state));
}
