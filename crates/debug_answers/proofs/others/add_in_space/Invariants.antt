use Rattle.std.proofs.Common.{◌≡◌, ◌++◌, drop, flat_map}
use Rattle.kernel_objects.specs.Pipework.{vector_bytes}
use Rattle.debug_session.specs.Pages.{also_row}
use Rattle.debug_answers.proofs.others.add_in_space.Given as goal

abbrev pub invariant-loop-place : goal.invariant-loop-place
invariant-loop-place l =
    vector_bytes l.lines.items
    ++ flat_map (also_row l.shown.process l.shown.page l.shown.frame l.process)
    (drop l.place l.space.entries)
    ≡ vector_bytes l.fn.lines.items
    ++ flat_map (also_row l.shown.process l.shown.page l.shown.frame l.process) l.space.entries
