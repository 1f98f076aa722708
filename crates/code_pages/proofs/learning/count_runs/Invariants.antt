use Rattle.std.proofs.Common.{◌≡◌}
use Rattle.std.specs.Vec.{vec_len, vec_capacity}
use Rattle.code_pages.specs.Lines.{AreSameBelow, AreSameCodes}
use Rattle.code_pages.proofs.LineLaws.{AreCountedIn}
use Rattle.code_pages.proofs.learning.count_runs.Given as goal

abbrev pub invariant-loop-at : goal.invariant-loop-at
invariant-loop-at l = record {
  count : vec_len l.lines ≡ l.count;
  entry : l.count ≡ vec_len l.fn.lines;
  below : AreSameBelow l.first l.fn.lines.items l.lines.items;
  codes : AreSameCodes l.fn.lines.items l.lines.items;
  counted : AreCountedIn l.first l.at l.lines.items;
  capacity : vec_capacity l.lines ≡ vec_capacity l.fn.lines;
}
