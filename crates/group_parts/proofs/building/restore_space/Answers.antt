use Rattle.group_parts.proofs.Spaces.{next_put, next_unmapped}
use Rattle.group_parts.proofs.building.restore_space.Goals as goal

pub put-requires-clause-unmapped : goal.put-requires-clause-unmapped
put-requires-clause-unmapped c = next_unmapped c.args.pages.now c.loop-i.i c.args.room _
    c.requires.rising c.loop-i-test.true c.loop-i.invariant

pub loop-i-preserved : goal.loop-i-preserved
loop-i-preserved c = next_put c.args.pages.now c.loop-i.i c.args.room _
    c.requires.rising c.loop-i-test.true c.loop-i.invariant c.put.ensures
