use Rattle.std.proofs.Common.{◌≡◌, map, take}
use Rattle.group_text.specs.Records.{sleeper_of_record}
use Rattle.group_parts.proofs.sleepers.record_sleepers.Given as goal

abbrev pub invariant-loop-place : goal.invariant-loop-place
invariant-loop-place l = map sleeper_of_record l.sleepers.items ≡ take l.place l.futexes
