use Rattle.std.proofs.Common.{◌≡◌, ◌-◌, ◌++◌, true, false, replicate}
use Rattle.hierarchical_bitmap.proofs.bitmap.Bitmap.full.Given as goal

abbrev pub invariant-loop-place : goal.invariant-loop-place
invariant-loop-place l =
    l.bitmap ≡ replicate l.place true ++ replicate (l.count - l.place) false
