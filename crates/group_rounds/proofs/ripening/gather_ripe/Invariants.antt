use Rattle.std.proofs.Common.{◌≤◌, ℕ, List, length}
use Rattle.std.specs.Vec.{vec_capacity}
use Rattle.kernel_calls.specs.StateWorld.{sent, world_of}
use Rattle.group_rounds.specs.Phases.{is_ripe}
use Rattle.group_rounds.proofs.Starters.{IsGathered, live_above}
use Rattle.group_rounds.proofs.ripening.gather_ripe.Given as goal

abbrev pub invariant-loop-tid : goal.invariant-loop-tid
invariant-loop-tid l = record {
  gathered : (q : ℕ) (o e : List ℕ)
      → IsGathered (is_ripe (sent o e (world_of q l.state))) l.state.table.threads l.found.items
      l.last;
  room : 64 ≤ vec_capacity l.found;
}

abbrev pub decreases-loop-tid : goal.decreases-loop-tid
decreases-loop-tid l = length (live_above l.state.table.threads l.last)
