use Rattle.std.proofs.Common.{◌≡◌, ◌++◌, take}
use Rattle.std.specs.List.{flat_map}
use Rattle.log_text.specs.LogText.{entry_text}
use Rattle.log_text.specs.Places.{StandsAt}
use Rattle.log_text.proofs.translation.put_each.Given as goal

abbrev pub invariant-loop-i : goal.invariant-loop-i
invariant-loop-i l = (l.out.items ≡ l.fn.out.items ++ flat_map entry_text (take l.i l.log.entries))
    × StandsAt l.log l.i l.place l.within
