use Rattle.dos_world.specs.MemoryCalls.{unmapped}
use Rattle.kernel_calls.proofs.MemoryCalls.{are_used, counted-unmap, unmap_comes, unmap_number}
use Rattle.kernel_calls.proofs.Spaces.{concluded, counted-concluded}
use Rattle.kernel_calls.proofs.memory.unmap.Goals as goal

pub unmap-unmapped-requires-clause-used : goal.unmap-unmapped-requires-clause-used
unmap-unmapped-requires-clause-used c =
    are_used c.args.state.now c.args.asked.now c.requires.sound c.requires.asked

pub conclude-requires-clause-number : goal.conclude-requires-clause-number
conclude-requires-clause-number c =
    unmap_number c.args.state.now c.args.asked.now c.requires.sound c.requires.asked
    c.unmap-unmapped.new.frames c.unmap-unmapped.new.table c.unmap-unmapped.result
    c.unmap-unmapped.ensures.tests
    c.unmap-unmapped.ensures.frames c.unmap-unmapped.ensures.table c.unmap-unmapped.ensures.stays

pub returns-clause-goes_on : goal.returns-clause-goes_on
returns-clause-goes_on c =
    concluded c.args.state.now c.conclude.new.state c.args.asked.now c.unmap-unmapped.new.frames
    c.unmap-unmapped.new.table c.unmap-unmapped.result c.conclude.ensures unmapped
    c.unmap-unmapped.ensures.stays
    (unmap_comes c.args.state.now c.args.asked.now c.requires.sound c.requires.asked
    c.unmap-unmapped.new.frames c.unmap-unmapped.new.table c.unmap-unmapped.result
    c.unmap-unmapped.ensures.tests
    c.unmap-unmapped.ensures.frames c.unmap-unmapped.ensures.table c.unmap-unmapped.ensures.stays)

pub returns-clause-counted : goal.returns-clause-counted
returns-clause-counted c =
    counted-concluded c.args.state.now c.conclude.new.state c.args.asked.now
    c.unmap-unmapped.new.frames c.unmap-unmapped.new.table c.unmap-unmapped.result
    c.conclude.ensures
    (counted-unmap c.args.state.now c.args.asked.now c.requires.sound c.requires.asked
    c.unmap-unmapped.new.frames c.unmap-unmapped.new.table c.unmap-unmapped.result
    c.unmap-unmapped.ensures.tests
    c.unmap-unmapped.ensures.frames c.unmap-unmapped.ensures.table c.unmap-unmapped.ensures.stays)
