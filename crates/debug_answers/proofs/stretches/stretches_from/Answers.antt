use Rattle.std.proofs.Common.{arith}
use Rattle.dos_world.specs.Lawful.{IsPage}
use Rattle.std.proofs.Common.{length, drop, ◌+◌}
use Rattle.kernel_objects.specs.Pipework.{vector_bytes}
use Rattle.kernel_calls.specs.StateWorld.{world_of}
use Rattle.debug_session.specs.Pages.{stretch_line}
use Rattle.debug_answers.proofs.Frames.{one_low}
use Rattle.debug_answers.proofs.Rows.{pushed}
use Rattle.debug_answers.proofs.Stretching.{gone_on, last_told}
use Rattle.debug_answers.proofs.stretches.stretches_from.Goals as goal

pub loop-place-preserved : goal.loop-place-preserved
loop-place-preserved c =
    let s = c.args.state.now in
    let es = c.args.space.now.entries in
    let i = c.loop-place.place in
    let next = c.at-next.result in record {
      told = λ q.
          gone_on (world_of q s) es i c.loop-place.first c.loop-place.last
          (vector_bytes c.loop-place.lines.items) _ (c.loop-place.invariant.told q)
          c.in_ok-first.first next (vector_bytes c.go_on.new.lines.items) c.at-next.ensures
          (c.in_ok-first.ensures.told q (drop (i + 1) es));
      first = c.in_ok-first.ensures.page;
      last = one_low (IsPage (length s.frames.owners)) es i next c.requires.pages c.at-next.ensures;
    }

pub returns : goal.returns
returns c q =
    let s = c.args.state.now in
    let es = c.args.space.now.entries in
    let first = c.loop-place.first in
    let last = c.loop-place.last in
    let lines = c.loop-place.lines.items in
    let more = c.push.new.self.items in
    last_told (world_of q s) es c.loop-place.place first last (vector_bytes lines) _
    (c.loop-place.invariant.told q) (vector_bytes more)
    (pushed lines more c.in_ok-stretch_line.field-0 (stretch_line (world_of q s) first last)
    c.in_ok-push.ensures.items (c.in_ok-stretch_line.ensures q))
    (omega (arith, c.loop-place-test.false, c.len-place-end.ensures.count))
