use Rattle.std.proofs.Common.{◌≡◌, vec_len}
use Rattle.board_bench.proofs.parts.Given as goal

abbrev pub invariant-loop-made : goal.invariant-loop-made
invariant-loop-made l = vec_len l.parts ≡ l._made
