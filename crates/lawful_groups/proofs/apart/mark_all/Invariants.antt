use Rattle.std.proofs.Common.{◌≡◌, ◌&&◌, length, drop, suc}
use Rattle.lawful_groups.specs.Apart.{are_all_apart}
use Rattle.lawful_groups.proofs.apart.mark_all.Given as goal

abbrev pub invariant-loop-i : goal.invariant-loop-i
invariant-loop-i l =
    ((l.apart && are_all_apart l.last.items (suc l.i) (drop l.i l.processes))
    ≡ are_all_apart l.fn.last.items 1 l.processes)
    × (length l.last.items ≡ length l.fn.last.items)
