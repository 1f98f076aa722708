use Rattle.std.proofs.Common.{◌≤◌, length}
use Rattle.page_store.specs.Store.{AreFreeFrom}
use Rattle.page_store.proofs.tally.high_of.Given as goal

abbrev pub invariant-frames : goal.invariant-frames
invariant-frames l = record {
  free : AreFreeFrom l.owners l.high;
  within : l.high ≤ length l.owners;
}

abbrev pub decreases-frames : goal.decreases-frames
decreases-frames l = l.high
