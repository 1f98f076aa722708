use Rattle.std.proofs.Common.{sym}
use Rattle.kernel_calls.specs.StateWorld.{world_of}
use Rattle.debug_answers.proofs.Behind.{put_as}
use Rattle.debug_answers.proofs.Whereabouts.{what_is_absent}
use Rattle.debug_answers.proofs.waits.put_what.Goals as goal

pub returns : goal.returns
returns c q =
    put_as _ c.args.out.now.items _ _ _
    (what_is_absent (world_of q c.args.state.now) c.args.process c.args.thread
    (sym c.if-is_thread.ensures))
    (c.put_absence.ensures q)
