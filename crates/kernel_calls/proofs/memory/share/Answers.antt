use Rattle.dos_world.specs.MemoryCalls.{shared}
use Rattle.kernel_calls.proofs.MemoryCalls.{counted-share, share_comes, share_number, share_stays}
use Rattle.kernel_calls.proofs.Spaces.{concluded, counted-concluded}
use Rattle.kernel_calls.proofs.memory.share.Goals as goal

pub conclude-requires-clause-number : goal.conclude-requires-clause-number
conclude-requires-clause-number c =
    share_number c.args.state.now c.args.asked.now c.requires.sound c.requires.asked
    c.share-shared.new.table c.share-shared.result c.share-shared.ensures.shares
    c.share-shared.ensures.table c.share-shared.ensures.stays

pub returns-clause-goes_on : goal.returns-clause-goes_on
returns-clause-goes_on c =
    concluded c.args.state.now c.conclude.new.state c.args.asked.now c.args.state.now.frames
    c.share-shared.new.table c.share-shared.result c.conclude.ensures shared
    (share_stays c.args.state.now c.args.asked.now c.requires.sound c.requires.asked
    c.share-shared.new.table c.share-shared.result c.share-shared.ensures.shares
    c.share-shared.ensures.table c.share-shared.ensures.stays)
    (share_comes c.args.state.now c.args.asked.now c.requires.sound c.requires.asked
    c.share-shared.new.table c.share-shared.result c.share-shared.ensures.shares
    c.share-shared.ensures.table c.share-shared.ensures.stays)

pub returns-clause-counted : goal.returns-clause-counted
returns-clause-counted c =
    counted-concluded c.args.state.now c.conclude.new.state c.args.asked.now
    c.args.state.now.frames c.share-shared.new.table c.share-shared.result c.conclude.ensures
    (counted-share c.args.state.now c.args.asked.now c.requires.sound c.requires.asked
    c.share-shared.new.table c.share-shared.result c.share-shared.ensures.shares
    c.share-shared.ensures.table c.share-shared.ensures.stays)
