use Rattle.std.proofs.Common.{◌≡◌, ◌+◌, ◌<◌, ◌^◌, drop}
use Rattle.std.specs.List.{sum_by}
use Rattle.group_writer.specs.Room.{capped, frame_room}
use Rattle.group_writer.proofs.room.frames_room.Given as goal

abbrev pub invariant-loop-i : goal.invariant-loop-i
invariant-loop-i l =
    (capped (l.room + sum_by frame_room (drop l.i l.frames))
    ≡ capped (sum_by frame_room l.frames)) × (l.room < 2 ^ 64)
