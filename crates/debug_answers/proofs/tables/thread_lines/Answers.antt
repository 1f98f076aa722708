use Rattle.std.proofs.Common.{ℕ, ◌∙◌, arith}
use Rattle.dos_world.specs.World.{Thread}
use Rattle.proc_table.specs.Spread.{living_from}
use Rattle.kernel_objects.specs.Pipework.{vector_bytes}
use Rattle.kernel_calls.specs.StateWorld.{world_of}
use Rattle.debug_session.specs.Tables.{thread_line}
use Rattle.debug_answers.proofs.Living.{living_count, living_lines}
use Rattle.debug_answers.proofs.Rows.{line_added, lines_done, pushed}
use Rattle.debug_answers.proofs.tables.thread_lines.Goals as goal

pub live_thread-number-requires : goal.live_thread-number-requires
live_thread-number-requires c = omega (
  arith,
  living_count 1 c.args.state.now.table.threads,
  c.live_threads-place-end.ensures,
  c.loop-place-test.true,
)

pub loop-place-preserved : goal.loop-place-preserved
loop-place-preserved c q =
    let w = world_of q c.args.state.now in
    let lines = c.loop-place.lines.items in
    let more = c.push.new.self.items in
    let number = c.live_thread-number.result.0 in
    let thread = c.live_thread-number.result.1.now in
    line_added (λ (e : ℕ × Thread). thread_line w e.0 e.1)
    (living_from 1 c.args.state.now.table.threads) c.loop-place.place (vector_bytes lines) _
    (c.loop-place.invariant q) (number, thread) (vector_bytes more)
    c.live_thread-number.ensures
    (pushed lines more c.in_ok-thread_line.field-0 (thread_line w number thread)
    c.in_ok-push.ensures.items (c.in_ok-thread_line.ensures q))

pub returns : goal.returns
returns c q =
    let w = world_of q c.args.state.now in
    let threads = c.args.state.now.table.threads in
    lines_done (λ (e : ℕ × Thread). thread_line w e.0 e.1) (living_from 1 threads)
    c.loop-place.place (vector_bytes c.loop-place.lines.items) _ (c.loop-place.invariant q)
    (omega (
      arith,
      living_count 1 threads,
      c.live_threads-place-end.ensures,
      c.loop-place-test.false,
    ))
    ∙ living_lines w 1 threads
