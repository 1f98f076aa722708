use Rattle.std.proofs.Common.{◌≡◌, map, take}
use Rattle.group_text.specs.Records.{sleeper_of_record}
use Rattle.group_parts.proofs.sleepers.restore_sleepers.Given as goal

abbrev pub invariant-loop-i : goal.invariant-loop-i
invariant-loop-i l = l.futexes ≡ map sleeper_of_record (take l.i l.sleepers)
