use Rattle.std.proofs.Common.{ℕ, map, ◌≡◌, ◌+◌}
use Rattle.text_fields.proofs.ListLoops.{HasRead}
use Rattle.text_fields.proofs.lists.read_many.Given as goal

-- What was read stands in front of what is left to read.
abbrev pub invariant-loop : goal.invariant-loop
invariant-loop g l = (left : ℕ) × (l.count ≡ left + l.counter)
    × HasRead (λ (s : ℕ). g.R.Row.reading l.row) (λ s x. s) l.end l.count 0 l.bytes
    (map g.R.Row.seen l.list.items) left 0 l.rest
