use Rattle.kernel_objects.specs.Pipework.{vector_bytes}
use Rattle.debug_session.specs.Pages.{also_row}
use Rattle.debug_answers.proofs.Frames.{IsLow, one_low}
use Rattle.debug_answers.proofs.Rows.{some_added}
use Rattle.debug_answers.proofs.others.add_in_space.Goals as goal

pub add_also-requires : goal.add_also-requires
add_also-requires c =
    one_low IsLow c.args.space.now.entries c.loop-place.place c.at.result c.requires c.at.ensures

pub loop-place-preserved : goal.loop-place-preserved
loop-place-preserved c =
    some_added
    (also_row c.args.shown.process c.args.shown.page c.args.shown.frame c.args.process)
    c.args.space.now.entries c.loop-place.place (vector_bytes c.loop-place.lines.items) _
    c.loop-place.invariant c.at.result (vector_bytes c.add_also.new.lines.items) c.at.ensures
    c.in_ok-add_also.ensures
