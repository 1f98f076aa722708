use Rattle.std.proofs.Common.{◌≡◌, length, drop}
use Rattle.lawful_groups.specs.Counts.{counted_space}
use Rattle.lawful_groups.proofs.counts.count_space.Given as goal

abbrev pub invariant-loop-i : goal.invariant-loop-i
invariant-loop-i l =
    (counted_space l.uses.items (drop l.i l.pages) ≡ counted_space l.fn.uses.items l.pages)
    × (length l.uses.items ≡ length l.fn.uses.items)
