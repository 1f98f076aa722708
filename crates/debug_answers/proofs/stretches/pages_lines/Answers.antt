use Rattle.std.proofs.Common.{◌∙◌, sym}
use Rattle.std.proofs.lemmas.Result.{IfOk-weaker}
use Rattle.proc_table.specs.Tables.{held_in}
use Rattle.kernel_calls.specs.StateWorld.{world_of}
use Rattle.debug_answers.proofs.Frames.{all_pages, pages_living, pages_absent}
use Rattle.debug_answers.proofs.stretches.pages_lines.Goals as goal

pub stretches_of-requires : goal.stretches_of-requires
stretches_of-requires c =
    all_pages c.args.state.now c.args.process c.space.result.now.entries c.requires
    (sym c.if-is_live.ensures) c.space.ensures.entries

pub returns-then-is_live : goal.returns-then-is_live
returns-then-is_live c =
    let s = c.args.state.now in
    IfOk-weaker c.stretches_of.result _ _
    (λ lines told q. told q ∙ pages_living (world_of q s)
    (held_in s.table.processes c.args.process) c.space.result.now.entries
    (sym c.if-is_live.ensures) c.space.ensures.entries)
    c.stretches_of.ensures

pub returns : goal.returns
returns c =
    let s = c.args.state.now in
    IfOk-weaker c.one_line.result _ _
    (λ lines told q. told ∙ pages_absent (world_of q s)
    (held_in s.table.processes c.args.process) (sym c.if-is_live.ensures))
    c.one_line.ensures
