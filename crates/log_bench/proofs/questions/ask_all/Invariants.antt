use Rattle.std.proofs.Common.{◌≤◌, ◌<◌, length}
use Rattle.dos_io.specs.Shims.{HasNoEnd}
use Rattle.log_bench.proofs.questions.ask_all.Given as goal

abbrev pub invariant-loop-round : goal.invariant-loop-round
invariant-loop-round g l = HasNoEnd (g.S.Shim.state l.shim).told × (0 < length l.buf)
    × (length l.buf ≤ 4096)
