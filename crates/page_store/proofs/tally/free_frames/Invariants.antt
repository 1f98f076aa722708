use Rattle.std.proofs.Common.{◌≡◌}
use Rattle.page_store.proofs.Frees.{front_free}
use Rattle.page_store.proofs.tally.free_frames.Given as goal

abbrev pub invariant-loop-frame : goal.invariant-loop-frame
invariant-loop-frame l = record { are : l.frames ≡ front_free l.frame l.owners }
