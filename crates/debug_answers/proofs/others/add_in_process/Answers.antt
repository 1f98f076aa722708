use Rattle.std.proofs.Common.{sym}
use Rattle.kernel_objects.specs.Pipework.{vector_bytes}
use Rattle.proc_table.specs.Tables.{held_in}
use Rattle.debug_answers.proofs.Behind.{put_as}
use Rattle.debug_answers.proofs.Frames.{all_low, also_living, also_none}
use Rattle.debug_answers.proofs.others.add_in_process.Goals as goal

pub add_in_space-requires : goal.add_in_space-requires
add_in_space-requires c =
    all_low c.args.state.now c.args.process c.space.result.now.entries c.requires
    (sym c.if-is_live.ensures) c.space.ensures.entries

pub returns-then-is_live : goal.returns-then-is_live
returns-then-is_live c =
    put_as _ (vector_bytes c.args.lines.now.items) _ _ _
    (also_living c.args.shown.process c.args.shown.page c.args.shown.frame c.args.process
    (held_in c.args.state.now.table.processes c.args.process) c.space.result.now.entries
    (sym c.if-is_live.ensures) c.space.ensures.entries)
    c.add_in_space.ensures

pub returns : goal.returns
returns c =
    also_none c.args.shown.process c.args.shown.page c.args.shown.frame c.args.process
    (held_in c.args.state.now.table.processes c.args.process)
    (vector_bytes c.args.lines.now.items) (sym c.if-is_live.ensures)
