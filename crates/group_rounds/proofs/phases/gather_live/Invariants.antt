use Rattle.std.proofs.Common.{◌≤◌, length, true}
use Rattle.std.specs.Vec.{vec_capacity}
use Rattle.group_rounds.proofs.Starters.{IsGathered, live_above}
use Rattle.group_rounds.proofs.phases.gather_live.Given as goal

abbrev pub invariant-loop-tid : goal.invariant-loop-tid
invariant-loop-tid l = record {
  gathered : IsGathered (λ t. true) l.table.threads l.found.items l.last;
  room : 64 ≤ vec_capacity l.found;
}

abbrev pub decreases-loop-tid : goal.decreases-loop-tid
decreases-loop-tid l = length (live_above l.table.threads l.last)
