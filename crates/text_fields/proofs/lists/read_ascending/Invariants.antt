use Rattle.std.proofs.Common.{ℕ, suc, map, ◌≡◌, ◌+◌}
use Rattle.text_fields.proofs.ListLoops.{HasRead}
use Rattle.text_fields.proofs.lists.read_ascending.Given as goal

-- What was read stands in front of what is left to read.
abbrev pub invariant-loop : goal.invariant-loop
invariant-loop g l = (left : ℕ) × (l.count ≡ left + l.counter)
    × HasRead (g.R.NumberedRow.reading l.row) (λ s x. suc (g.R.NumberedRow.number x)) l.end l.count
    l.fn.least l.bytes
    (map g.R.NumberedRow.seen l.list.items) left l.least l.rest
