use Rattle.std.proofs.Common.{◌≡◌, ◌+◌, ◌≤◌, vec_len, vec_capacity, ◌++◌}
use Rattle.std.specs.Prelude.{reverse}
use Rattle.staying_workers.specs.Lending.{AreOfTerm, packs_held, Share}
use Rattle.staying_workers.proofs.held.lend.Given as goal

abbrev pub invariant-loop-pack : goal.invariant-loop-pack
invariant-loop-pack l =
    (packs_held l.held.items ++ reverse l.packs.items ≡ l.fn.packs.items)
    × Share l.fn.lender.value l.held.items
    × AreOfTerm l.fn.lender.term l.held.items
    × (l.lender.value ≡ l.fn.lender.value) × (l.lender.term ≡ l.fn.lender.term)
    × (l.lender.out ≡ vec_len l.held)
    × (vec_len l.held + vec_len l.packs ≡ vec_len l.fn.packs)
    × (vec_len l.fn.packs ≤ vec_capacity l.held)
    × (vec_capacity l.packs ≡ vec_capacity l.fn.packs)

abbrev pub decreases-loop-pack : goal.decreases-loop-pack
decreases-loop-pack l = vec_len l.packs
