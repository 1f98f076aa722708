use Rattle.std.proofs.Common.{◌≡◌, ◌<◌, ℕ, get_or, length}
use Rattle.group_parts.specs.PipeEnds.{all_ends, end_test}
use Rattle.group_parts.proofs.ends.count_ends.Given as goal

abbrev pub invariant-loop-pipe : goal.invariant-loop-pipe
invariant-loop-pipe l = (length l.counts ≡ 64)
    × ((k : ℕ) → k < l.pipe → get_or l.counts k 0 ≡ all_ends (end_test l.writer k) l.processes)
