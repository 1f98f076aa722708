use Rattle.std.proofs.Common.{◌≡◌}
use Rattle.code_pages.specs.Lines.{AreSameIn}
use Rattle.code_pages.proofs.learning.differ.Given as goal

abbrev pub invariant-loop-at : goal.invariant-loop-at
invariant-loop-at l = l.all ≡ 0 → AreSameIn l.from l.at l.a l.b
