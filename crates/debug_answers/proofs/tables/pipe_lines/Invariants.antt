use Rattle.std.proofs.Common.{◌≡◌, ◌++◌, ℕ}
use Rattle.kernel_objects.specs.Pipework.{vector_bytes}
use Rattle.kernel_calls.specs.StateWorld.{world_of}
use Rattle.debug_session.specs.Tables.{pipe_line}
use Rattle.debug_answers.proofs.Rows.{rows_from}
use Rattle.debug_answers.proofs.tables.pipe_lines.Given as goal

abbrev pub invariant-loop-pipe : goal.invariant-loop-pipe
invariant-loop-pipe l = (q : ℕ)
    → vector_bytes l.lines.items
    ++ rows_from (pipe_line (world_of q l.state)) 0 l.state.pipes.bytes l.pipe
    ≡ rows_from (pipe_line (world_of q l.state)) 0 l.state.pipes.bytes 0
