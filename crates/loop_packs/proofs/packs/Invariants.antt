use Rattle.std.proofs.Common.{◌≡◌, All, vec_len}
use Rattle.loop_packs.specs.Loops.{IsLoop}
use Rattle.loop_packs.proofs.packs.Given as goal

abbrev pub invariant-loop-place : goal.invariant-loop-place
invariant-loop-place l = (vec_len l.packs ≡ l.place) × All IsLoop l.packs.items
