use Rattle.std.proofs.Common.{◌≡◌, ◌&&◌, length, drop}
use Rattle.lawful_groups.specs.Apart.{marked_space, are_apart}
use Rattle.lawful_groups.proofs.apart.mark_space.Given as goal

abbrev pub invariant-loop-i : goal.invariant-loop-i
invariant-loop-i l =
    (marked_space l.last.items l.pid (drop l.i l.pages)
    ≡ marked_space l.fn.last.items l.pid l.pages)
    × ((l.apart && are_apart l.last.items l.pid (drop l.i l.pages))
    ≡ are_apart l.fn.last.items l.pid l.pages)
    × (length l.last.items ≡ length l.fn.last.items)
