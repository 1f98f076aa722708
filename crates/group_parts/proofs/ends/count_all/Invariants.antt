use Rattle.std.proofs.Common.{◌≡◌, ◌+◌, drop}
use Rattle.group_parts.specs.PipeEnds.{all_ends, end_test}
use Rattle.group_parts.proofs.ends.count_all.Given as goal

abbrev pub invariant-loop-i : goal.invariant-loop-i
invariant-loop-i l =
    l.count + all_ends (end_test l.writer l.pipe) (drop l.i l.processes)
    ≡ all_ends (end_test l.writer l.pipe) l.processes
