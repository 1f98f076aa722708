use Rattle.std.proofs.Common.{◌≡◌, ◌*◌, ◌<◌}
use Rattle.std.specs.Vec.{vec_capacity}
use Rattle.code_pages.specs.Lines.{IsWrittenIn, IsKnownPage, AreLinesKept}
use Rattle.code_pages.proofs.learning.Code.change_part.Given as goal

abbrev pub invariant-loop-eight : goal.invariant-loop-eight
invariant-loop-eight l = record {
  known : IsKnownPage l.lines.items l.self;
  lines : AreLinesKept l.fn.lines.items l.lines.items;
  bytes : IsWrittenIn (64 * l.part) (8 * l.eight) l.fn.self.bytes l.self.bytes l.bytes;
  starts : l.self.starts ≡ l.fn.self.starts;
  last : l.last < 2048;
  capacity : vec_capacity l.lines ≡ vec_capacity l.fn.lines;
}
