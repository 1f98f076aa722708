use Rattle.std.proofs.Common.{◌≤◌, length}
use Rattle.std.specs.Vec.{vec_capacity}
use Rattle.group_rounds.specs.Phases.{is_ready}
use Rattle.group_rounds.proofs.Starters.{IsGathered, live_above}
use Rattle.group_rounds.proofs.phases.gather.Given as goal

abbrev pub invariant-loop-tid : goal.invariant-loop-tid
invariant-loop-tid l = record {
  gathered : IsGathered (is_ready l.table.threads) l.table.threads l.starters.items l.last;
  room : 64 ≤ vec_capacity l.starters;
}

abbrev pub decreases-loop-tid : goal.decreases-loop-tid
decreases-loop-tid l = length (live_above l.table.threads l.last)
