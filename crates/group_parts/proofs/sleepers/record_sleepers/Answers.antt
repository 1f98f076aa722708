use Rattle.group_text.specs.Records.{sleeper_of_record}
use Rattle.group_parts.proofs.Taken.{mapped_more}
use Rattle.group_parts.proofs.sleepers.record_sleepers.Goals as goal

pub loop-place-preserved : goal.loop-place-preserved
loop-place-preserved c = mapped_more sleeper_of_record c.args.futexes.now c.loop-place.place _
    c.loop-place.sleepers.items c.in_ok-push.ensures.items c.loop-place.invariant c.at-tid.ensures
