use Rattle.std.proofs.Common.{◌≡◌}
use Rattle.machine_tests.proofs.assembler.fill.Given as goal

-- the labels stand
abbrev pub invariant-loop : goal.invariant-loop
invariant-loop l = l.builder.labels ≡ l.fn.builder.labels
