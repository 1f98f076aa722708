use Rattle.std.proofs.Common.{◌≡◌, ◌≤◌, map, take}
use Rattle.std.specs.Vec.{vec_capacity}
use Rattle.group_text.specs.Records.{thread_of_record}
use Rattle.group_parts.proofs.building.restore_threads.Given as goal

abbrev pub invariant-loop-i : goal.invariant-loop-i
invariant-loop-i l =
    (l.threads.items ≡ map thread_of_record (take l.i l.records)) × (64 ≤ vec_capacity l.threads)
