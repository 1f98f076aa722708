use Rattle.std.proofs.Common.{◌≤◌, ◌<◌, length}
use Rattle.dos_io.specs.Shims.{HasNoEnd}
use Rattle.log_tests.proofs.shims.full_inputs.Given as goal

abbrev pub invariant-loop : goal.invariant-loop
invariant-loop g l = HasNoEnd (g.S.Shim.state l.shim).told × (0 < length l.buf)
    × (length l.buf ≤ 4096)
