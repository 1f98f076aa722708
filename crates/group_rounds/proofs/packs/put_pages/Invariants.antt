use Rattle.std.proofs.Common.{length}
use Rattle.group_rounds.proofs.HandingLaws.{Putting}
use Rattle.group_rounds.proofs.packs.put_pages.Given as goal

abbrev pub invariant-loop-frame : goal.invariant-loop-frame
invariant-loop-frame l = Putting l.fn.pack l.fn.frames l.pack l.frames

abbrev pub decreases-loop-frame : goal.decreases-loop-frame
decreases-loop-frame l = length l.pack.pages
