use Rattle.group_parts.proofs.Taken.{pushed_more}
use Rattle.group_parts.proofs.reading.record_saved.Goals as goal

pub loop-place-preserved : goal.loop-place-preserved
loop-place-preserved c = pushed_more c.args.signals.now.saved c.loop-place.place c.saved.result
    c.in_ok-push.ensures.items c.loop-place.invariant c.saved.ensures
