use Rattle.std.proofs.Common.{arith}
use Rattle.group_open.proofs.StateLaws.{frames_are, state_is_sound, state_world}
use Rattle.group_open.specs.Group.{IsStateOf}
use Rattle.group_open.proofs.open.open_state.Goals as goal

pub returns-clause-opens : goal.returns-clause-opens
returns-clause-opens c = state_world c.args.images.now c.args.config.now c.in_ok-state_of.field-0
    c.in_ok-state_of.ensures c.args.config.now.quantum

pub returns-clause-sound : goal.returns-clause-sound
returns-clause-sound c = state_is_sound c.args.images.now c.args.config.now c.in_ok-state_of.field-0
    c.in_ok-state_of.ensures c.requires.some c.requires.few c.needed-needed.ensures.accepted
    c.requires.config (omega (arith, c.needed-needed.ensures.count))

pub returns-clause-round : goal.returns-clause-round
returns-clause-round c = let state : IsStateOf c.args.config.now.frames c.args.images.now
    c.in_ok-state_of.field-0 = c.in_ok-state_of.ensures in state.round

pub returns-clause-frames : goal.returns-clause-frames
returns-clause-frames c =
    frames_are c.args.config.now.frames c.args.images.now c.in_ok-state_of.field-0
    c.in_ok-state_of.ensures
