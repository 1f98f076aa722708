use Rattle.std.proofs.Common.{◌≡◌, All, vec_len}
use Rattle.loop_packs.specs.Loops.{IsLoop}
use Rattle.loop_packs.proofs.repeat.Given as goal

abbrev pub invariant-loop : goal.invariant-loop
invariant-loop g l = (vec_len l.packs ≡ vec_len l.fn.packs) × All IsLoop l.packs.items
    × (l.shared ≡ l.fn.shared)
