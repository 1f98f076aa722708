use Rattle.std.proofs.Common.{◌≡◌, All, vec_len}
use Rattle.loop_packs.specs.Loops.{IsLoop}
use Rattle.loop_packs.proofs.refill.Given as goal

abbrev pub invariant-loop-place : goal.invariant-loop-place
invariant-loop-place l = (vec_len l.packs ≡ vec_len l.fn.packs) × All IsLoop l.packs.items
