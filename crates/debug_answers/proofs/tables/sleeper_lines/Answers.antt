use Rattle.kernel_objects.specs.Pipework.{vector_bytes}
use Rattle.kernel_objects.specs.Queue.{sleeper_of}
use Rattle.debug_session.specs.Tables.{sleeper_line}
use Rattle.debug_answers.proofs.Rows.{line_added, pushed}
use Rattle.debug_answers.proofs.tables.sleeper_lines.Goals as goal

pub loop-place-preserved : goal.loop-place-preserved
loop-place-preserved c =
    let lines = c.loop-place.lines.items in
    let more = c.push.new.self.items in
    let sleeper = sleeper_of c.at.result in
    line_added sleeper_line c.args.state.now.futexes c.loop-place.place (vector_bytes lines) _
    c.loop-place.invariant sleeper (vector_bytes more) c.at.ensures
    (pushed lines more c.in_ok-sleeper_line.field-0 (sleeper_line sleeper)
    c.in_ok-push.ensures.items c.in_ok-sleeper_line.ensures)
