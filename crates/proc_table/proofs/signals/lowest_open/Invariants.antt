use Rattle.std.proofs.Common.{◌≡◌, ℕ, ◌≤◌, ◌<◌, false}
use Rattle.proc_table.specs.Saved.{is_deliverable}
use Rattle.proc_table.proofs.signals.lowest_open.Given as goal

abbrev pub invariant-loop-signal : goal.invariant-loop-signal
invariant-loop-signal l = (k : ℕ) → 1 ≤ k → k < l.signal → is_deliverable l.pending l.mask k ≡ false
