use Rattle.std.proofs.Common.{◌≡◌, ◌+◌, ◌<◌, ◌^◌, drop, length}
use Rattle.std.specs.List.{sum_by}
use Rattle.group_writer.specs.Room.{capped}
use Rattle.group_writer.proofs.room.pipes_room.Given as goal

abbrev pub invariant-loop-i : goal.invariant-loop-i
invariant-loop-i l =
    (capped (l.room + sum_by (λ p. length p.items + 2) (drop l.i l.pipes))
    ≡ capped (sum_by (λ p. length p.items + 2) l.pipes)) × (l.room < 2 ^ 64)
