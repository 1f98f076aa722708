use Rattle.std.proofs.Common.{◌≡◌, ◌+◌, ◌<◌, ◌^◌, drop}
use Rattle.std.specs.List.{sum_by}
use Rattle.group_writer.specs.Room.{capped, thread_room}
use Rattle.group_writer.proofs.room.threads_room.Given as goal

abbrev pub invariant-loop-i : goal.invariant-loop-i
invariant-loop-i l =
    (capped (l.room + sum_by thread_room (drop l.i l.threads))
    ≡ capped (sum_by thread_room l.threads)) × (l.room < 2 ^ 64)
