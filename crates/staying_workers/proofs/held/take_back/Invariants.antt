use Rattle.std.proofs.Common.{◌≡◌, ◌+◌, ◌≤◌, ◌<◌, ◌^◌, vec_len, vec_capacity, ◌++◌}
use Rattle.std.specs.Prelude.{reverse}
use Rattle.staying_workers.specs.Lending.{AreOfTerm, packs_held}
use Rattle.staying_workers.proofs.held.take_back.Given as goal

abbrev pub invariant-loop-one : goal.invariant-loop-one
invariant-loop-one l =
    (l.packs.items ++ packs_held (reverse l.held.items) ≡ packs_held l.fn.held.items)
    × AreOfTerm l.fn.lender.term l.held.items
    × (l.lender.value ≡ l.fn.lender.value) × (l.lender.term ≡ l.fn.lender.term)
    × (l.lender.out ≡ vec_len l.held) × (vec_len l.held < 2 ^ 32)
    × (vec_len l.packs + vec_len l.held ≤ vec_capacity l.packs)
    × (vec_capacity l.packs ≡ vec_capacity l.fn.packs)

abbrev pub decreases-loop-one : goal.decreases-loop-one
decreases-loop-one l = vec_len l.held
