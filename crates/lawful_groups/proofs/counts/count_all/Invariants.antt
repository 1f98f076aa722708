use Rattle.std.proofs.Common.{◌≡◌, length, drop}
use Rattle.lawful_groups.specs.Counts.{counted_all}
use Rattle.lawful_groups.proofs.counts.count_all.Given as goal

abbrev pub invariant-loop-i : goal.invariant-loop-i
invariant-loop-i l =
    (counted_all l.uses.items (drop l.i l.processes) ≡ counted_all l.fn.uses.items l.processes)
    × (length l.uses.items ≡ length l.fn.uses.items)
