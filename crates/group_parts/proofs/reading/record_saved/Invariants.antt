use Rattle.std.proofs.Common.{◌≡◌, take}
use Rattle.group_parts.proofs.reading.record_saved.Given as goal

abbrev pub invariant-loop-place : goal.invariant-loop-place
invariant-loop-place l = l.saved.items ≡ take l.place l.signals.saved
