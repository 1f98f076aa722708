use Rattle.std.proofs.Common.{◌≡◌}
use Rattle.order_place.specs.Rule.{idle}
use Rattle.order_place.proofs.worker.serve.Given as goal

abbrev pub invariant-loop : goal.invariant-loop
invariant-loop g l = (l.seat.table_id ≡ l.fn.seat.table_id) × (l.seat.me ≡ idle)
