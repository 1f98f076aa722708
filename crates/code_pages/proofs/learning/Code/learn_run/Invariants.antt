use Rattle.std.proofs.Common.{◌≡◌, ◌<◌, ◌≤◌, ◌+◌, ◌*◌, ◌-◌, ◌/◌}
use Rattle.std.specs.Vec.{vec_len, vec_capacity}
use Rattle.code_pages.specs.Lines.{IsKnownPage, AreSameBelow, IsMarked, AreStartsFrom, AreFreshFrom}
use Rattle.code_pages.proofs.learning.Code.learn_run.Given as goal

abbrev pub invariant-loop-next : goal.invariant-loop-next
invariant-loop-next l = record {
  half : l.half ≤ 2048;
  known : IsKnownPage l.lines.items l.self;
  bytes : l.self.bytes ≡ l.fn.self.bytes;
  starts : AreStartsFrom (vec_len l.fn.lines) l.fn.self.starts l.self.starts;
  marked : IsMarked l.lines.items (l.fn.offset / 2 / 128) l.half;
  fresh : AreFreshFrom (vec_len l.fn.lines) l.lines.items;
  below : AreSameBelow (vec_len l.fn.lines) l.fn.lines.items l.lines.items;
  more : vec_len l.fn.lines < vec_len l.lines;
  few : vec_len l.lines + l.fn.offset / 2 ≤ vec_len l.fn.lines + 1 + l.half;
  room : vec_len l.lines + l.fn.offset / 2
      ≤ vec_len l.fn.lines + 129 + 128 * (l.fn.offset / 2 / 128);
  capacity : vec_capacity l.lines ≡ vec_capacity l.fn.lines;
}

abbrev pub decreases-loop-next : goal.decreases-loop-next
decreases-loop-next l = 2048 - l.half
