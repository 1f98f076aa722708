use Rattle.std.proofs.Common.{◌≡◌, ◌+◌, ◌<◌, ◌^◌, drop}
use Rattle.std.specs.List.{sum_by}
use Rattle.group_writer.specs.Room.{capped, process_room}
use Rattle.group_writer.proofs.room.processes_room.Given as goal

abbrev pub invariant-loop-i : goal.invariant-loop-i
invariant-loop-i l =
    (capped (l.room + sum_by process_room (drop l.i l.processes))
    ≡ capped (sum_by process_room l.processes)) × (l.room < 2 ^ 64)
