use Rattle.std.proofs.Common.{List, ℕ, ◌++◌, ap, sym}
use Rattle.kernel_objects.specs.Pipework.{vector_bytes}
use Rattle.kernel_calls.specs.StateWorld.{world_of}
use Rattle.debug_session.specs.Pages.{stretch_line}
use Rattle.debug_answers.proofs.Rows.{pushed}
use Rattle.debug_answers.proofs.Stretching.{went_on, line_over}
use Rattle.debug_answers.proofs.stretches.go_on.Goals as goal

pub returns-then-goes_on-clause-told : goal.returns-then-goes_on-clause-told
returns-then-goes_on-clause-told c q rest =
    ap (λ (ls : List (List ℕ)). vector_bytes c.args.lines.now.items ++ ls)
    (sym (went_on (world_of q c.args.state.now) c.args.first c.args.last c.args.next rest
    (sym (c.if-goes_on.ensures q))))

pub returns-clause-told : goal.returns-clause-told
returns-clause-told c q rest =
    let w = world_of q c.args.state.now in
    let lines = c.args.lines.now.items in
    let more = c.push.new.self.items in
    line_over w (vector_bytes lines) (vector_bytes more) c.args.first c.args.last c.args.next rest
    (pushed lines more c.in_ok-stretch_line.field-0 (stretch_line w c.args.first c.args.last)
    c.in_ok-push.ensures.items (c.in_ok-stretch_line.ensures q))
    (sym (c.if-goes_on.ensures q))
