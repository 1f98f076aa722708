use Rattle.std.proofs.Common.{◌≡◌, ◌++◌, drop, map}
use Rattle.kernel_objects.specs.Pipework.{vector_bytes}
use Rattle.debug_session.specs.Tables.{sleeper_line}
use Rattle.debug_answers.proofs.tables.sleeper_lines.Given as goal

abbrev pub invariant-loop-place : goal.invariant-loop-place
invariant-loop-place l =
    vector_bytes l.lines.items ++ map sleeper_line (drop l.place l.state.futexes)
    ≡ map sleeper_line l.state.futexes
