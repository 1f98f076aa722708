use Rattle.std.proofs.Common.{◌≡◌, take}
use Rattle.group_parts.proofs.reading.record_space.Given as goal

abbrev pub invariant-loop-place : goal.invariant-loop-place
invariant-loop-place l = l.pages.items ≡ take l.place l.space.entries
