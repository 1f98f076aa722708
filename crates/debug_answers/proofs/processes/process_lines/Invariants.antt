use Rattle.std.proofs.Common.{◌≡◌, ◌++◌}
use Rattle.kernel_objects.specs.Pipework.{vector_bytes}
use Rattle.debug_session.specs.Pages.{process_told}
use Rattle.debug_answers.specs.Images.{name_by}
use Rattle.debug_answers.proofs.Rows.{lines_from}
use Rattle.debug_answers.proofs.processes.process_lines.Given as goal

abbrev pub invariant-loop-place : goal.invariant-loop-place
invariant-loop-place l =
    vector_bytes l.lines.items
    ++ lines_from (λ p given. process_told (name_by (vector_bytes l.names) l.images p) p given) 1
    l.state.table.processes l.place
    ≡ lines_from (λ p given. process_told (name_by (vector_bytes l.names) l.images p) p given) 1
    l.state.table.processes 0
