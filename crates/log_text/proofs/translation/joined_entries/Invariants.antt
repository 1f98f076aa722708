use Rattle.std.proofs.Common.{◌≡◌, take}
use Rattle.log_text.specs.Places.{StandsAt}
use Rattle.log_text.proofs.translation.joined_entries.Given as goal

abbrev pub invariant-loop-i : goal.invariant-loop-i
invariant-loop-i l = (l.entries.list ≡ take l.i l.log.entries) × StandsAt l.log l.i l.place l.within
