use Rattle.std.proofs.Common.{◌≡◌, ◌++◌}
use Rattle.kernel_objects.specs.Pipework.{vector_bytes}
use Rattle.debug_session.specs.Tables.{descriptor_line}
use Rattle.debug_answers.proofs.Rows.{rows_from}
use Rattle.debug_answers.proofs.tables.descriptor_lines.Given as goal

abbrev pub invariant-loop-number : goal.invariant-loop-number
invariant-loop-number l =
    vector_bytes l.lines.items ++ rows_from descriptor_line 0 l.ends l.number
    ≡ rows_from descriptor_line 0 l.ends 0
