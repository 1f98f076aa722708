use Rattle.group_save.proofs.Restored.{built_is, restored_frames, restored_sound, restored_world}
use Rattle.group_save.proofs.restoring.restore_group.Goals as goal

pub returns-in-Ok-clause-world : goal.returns-in-Ok-clause-world
returns-in-Ok-clause-world c =
    restored_world c.args.group c.requires.fits c.requires.lawful c.state_of.result
    (built_is c.args.group c.state_of.ensures.frames c.in-Ok.ensures c.state_of.ensures.pipes
    c.in_ok-objects.ensures.pipes c.state_of.ensures.futexes c.in_ok-objects.ensures.futexes
    c.state_of.ensures.table c.in_ok-objects.ensures.table c.state_of.ensures.round)

pub returns-in-Ok-clause-sound : goal.returns-in-Ok-clause-sound
returns-in-Ok-clause-sound c =
    restored_sound c.args.group c.requires.fits c.requires.lawful c.state_of.result
    (built_is c.args.group c.state_of.ensures.frames c.in-Ok.ensures c.state_of.ensures.pipes
    c.in_ok-objects.ensures.pipes c.state_of.ensures.futexes c.in_ok-objects.ensures.futexes
    c.state_of.ensures.table c.in_ok-objects.ensures.table c.state_of.ensures.round)

pub returns-in-Ok-clause-frames : goal.returns-in-Ok-clause-frames
returns-in-Ok-clause-frames c =
    restored_frames c.args.group c.requires.fits c.requires.lawful c.state_of.result
    (built_is c.args.group c.state_of.ensures.frames c.in-Ok.ensures c.state_of.ensures.pipes
    c.in_ok-objects.ensures.pipes c.state_of.ensures.futexes c.in_ok-objects.ensures.futexes
    c.state_of.ensures.table c.in_ok-objects.ensures.table c.state_of.ensures.round)
