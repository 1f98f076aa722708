use Rattle.std.proofs.Common.{◌≡◌, ◌+◌, ℕ, List, IfSome, subst, refl, arith}
use Rattle.dos_world.specs.Numbered.{numbered}
use Rattle.dos_world.specs.World.{Process}
use Rattle.kernel_objects.specs.Pipework.{vector_bytes}
use Rattle.debug_session.specs.Pages.{process_told}
use Rattle.debug_answers.specs.Images.{name_by}
use Rattle.debug_answers.proofs.Lives.{process_row}
use Rattle.debug_answers.proofs.Rows.{numbered_added, pushed}
use Rattle.debug_answers.proofs.processes.process_lines.Goals as goal

pub loop-place-preserved : goal.loop-place-preserved
loop-place-preserved c =
    let ps = c.args.state.now.table.processes in
    let i = c.loop-place.place in
    let line = c.in_ok-process_line.field-0.items in
    let lines = c.loop-place.lines.items in
    let more = c.push.new.self.items in
    let f : ℕ → Process → List ℕ =
    λ p given. process_told (name_by (vector_bytes c.args.names.now) c.args.images.now p) p given in
    let told : IfSome (numbered ps (i + 1)) (λ given. line ≡ f (i + 1) given) =
    subst
    (λ (name : List ℕ). IfSome (numbered ps (i + 1))
    (λ given. line ≡ process_told name (i + 1) given))
    c.name_by-name.ensures c.in_ok-process_line.ensures in
    let row = process_row f ps i (i + 1) line
    (omega (arith, c.loop-place-test.true, c.processes-place-end.ensures)) refl told in
    numbered_added f 1 ps i (vector_bytes lines) _ c.loop-place.invariant row.0
    (vector_bytes more) row.1
    (pushed lines more c.in_ok-process_line.field-0 (f (1 + i) row.0) c.in_ok-push.ensures.items
    row.2)
