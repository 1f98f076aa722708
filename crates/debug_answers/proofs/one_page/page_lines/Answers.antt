use Rattle.std.proofs.Common.{◌∙◌, ◌/◌, sym}
use Rattle.std.proofs.lemmas.Result.{IfOk-weaker}
use Rattle.proc_table.specs.Tables.{held_in}
use Rattle.kernel_calls.specs.StateWorld.{world_of}
use Rattle.debug_answers.proofs.Frames.{page_living, page_absent}
use Rattle.debug_answers.proofs.one_page.page_lines.Goals as goal

pub returns-then-is_live : goal.returns-then-is_live
returns-then-is_live c =
    let s = c.args.state.now in
    IfOk-weaker c.live_page_lines.result _ _
    (λ lines told q. told q ∙ page_living (world_of q s) c.args.process (c.args.address / 4096)
    (held_in s.table.processes c.args.process) (sym c.if-is_live.ensures))
    c.live_page_lines.ensures

pub returns : goal.returns
returns c =
    let s = c.args.state.now in
    IfOk-weaker c.one_line.result _ _
    (λ lines told q. told ∙ page_absent (world_of q s) c.args.process (c.args.address / 4096)
    (held_in s.table.processes c.args.process) (sym c.if-is_live.ensures))
    c.one_line.ensures
