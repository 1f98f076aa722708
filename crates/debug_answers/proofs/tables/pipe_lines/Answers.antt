use Rattle.std.proofs.Common.{ℕ, List, [], ◌++◌, ◌∙◌, ap, get_or, arith, codes}
use Rattle.std.proofs.lemmas.Option.{slice_get-get_or}
use Rattle.std.proofs.lemmas.Result.{IfOk-weaker}
use Rattle.kernel_objects.specs.Pipework.{vector_bytes}
use Rattle.kernel_calls.specs.StateWorld.{world_of}
use Rattle.debug_session.specs.Tables.{pipe_line, lines_or}
use Rattle.debug_answers.proofs.Counting.{pipe_count, pipe_row}
use Rattle.debug_answers.proofs.Rows.{rows_added, rows_done}
use Rattle.debug_answers.proofs.tables.pipe_lines.Goals as goal

pub loop-pipe-preserved : goal.loop-pipe-preserved
loop-pipe-preserved c q =
    let s = c.args.state.now in
    let pipe = c.loop-pipe.pipe in
    rows_added (pipe_line (world_of q s)) 0 s.pipes.bytes pipe
    (vector_bytes c.loop-pipe.lines.items) _ (c.loop-pipe.invariant q)
    (get_or s.pipes.bytes pipe []) (vector_bytes c.add_pipe.new.lines.items)
    (slice_get-get_or s.pipes.bytes pipe []
    (omega (arith, pipe_count s c.requires, c.loop-pipe-test.true)))
    (c.in_ok-add_pipe.ensures
    ∙ ap (λ (ls : List (List ℕ)). vector_bytes c.loop-pipe.lines.items ++ ls)
    (pipe_row s c.requires q pipe c.len.result c.ends-readers.result c.ends-writers.result
    c.len.ensures c.ends-readers.ensures c.ends-writers.ensures))

pub returns : goal.returns
returns c =
    let s = c.args.state.now in
    IfOk-weaker c.lines_or.result _ _
    (λ lines told q. told ∙ ap (lines_or (codes "no pipe is open"))
    (rows_done (pipe_line (world_of q s)) 0 s.pipes.bytes c.loop-pipe.pipe
    (vector_bytes c.loop-pipe.lines.items) _ (c.loop-pipe.invariant q)
    (omega (arith, pipe_count s c.requires, c.loop-pipe-test.false))))
    c.lines_or.ensures
