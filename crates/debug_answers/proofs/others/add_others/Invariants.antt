use Rattle.std.proofs.Common.{◌≡◌, ◌++◌}
use Rattle.dos_world.specs.World.{holdings_of}
use Rattle.kernel_objects.specs.Pipework.{vector_bytes}
use Rattle.debug_session.specs.Pages.{also_in}
use Rattle.debug_answers.proofs.Rows.{rows_from}
use Rattle.debug_answers.proofs.others.add_others.Given as goal

abbrev pub invariant-loop-place : goal.invariant-loop-place
invariant-loop-place l =
    vector_bytes l.lines.items
    ++ rows_from
    (λ p process. also_in l.shown.process l.shown.page l.shown.frame p (holdings_of process)) 1
    l.state.table.processes l.place
    ≡ vector_bytes l.fn.lines.items
    ++ rows_from
    (λ p process. also_in l.shown.process l.shown.page l.shown.frame p (holdings_of process)) 1
    l.state.table.processes 0
