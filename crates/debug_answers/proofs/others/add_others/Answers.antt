use Rattle.std.proofs.Common.{ℕ, List, ◌++◌, ◌∙◌, ap, arith}
use Rattle.dos_world.specs.World.{Process, holdings_of}
use Rattle.kernel_objects.specs.Pipework.{vector_bytes}
use Rattle.debug_session.specs.Pages.{also_in}
use Rattle.debug_answers.proofs.Frames.{also_of_number}
use Rattle.debug_answers.proofs.Rows.{at_place, rows_added, rows_done}
use Rattle.debug_answers.proofs.others.add_others.Goals as goal

pub loop-place-preserved : goal.loop-place-preserved
loop-place-preserved c =
    let shown = c.args.shown in
    let ps = c.args.state.now.table.processes in
    let i = c.loop-place.place in
    let lines = vector_bytes c.loop-place.lines.items in
    let there = at_place ps i
    (omega (arith, c.loop-place-test.true, c.processes-place-end.ensures)) in
    rows_added
    (λ (p : ℕ) (process : Process).
    also_in shown.process shown.page shown.frame p (holdings_of process)) 1 ps i lines _
    c.loop-place.invariant there.0 (vector_bytes c.add_in_process.new.lines.items) there.1
    (c.in_ok-add_in_process.ensures
    ∙ ap (λ (ls : List (List ℕ)). lines ++ ls)
    (also_of_number shown.process shown.page shown.frame ps i there.0 there.1))

pub returns : goal.returns
returns c q =
    let shown = c.args.shown in
    rows_done
    (λ (p : ℕ) (process : Process).
    also_in shown.process shown.page shown.frame p (holdings_of process)) 1
    c.args.state.now.table.processes c.loop-place.place
    (vector_bytes c.loop-place.lines.items) _ c.loop-place.invariant
    (omega (arith, c.loop-place-test.false, c.processes-place-end.ensures))
