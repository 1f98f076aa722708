use Rattle.std.proofs.Common.{◌∙◌}
use Rattle.kernel_calls.specs.StateWorld.{sent, world_of}
use Rattle.group_walk.proofs.Moved.{turn_spent, turn_stays}
use Rattle.group_walk.proofs.moving.pass_turn.Goals as goal

pub returns-then-is_rest_over-clause-passes : goal.returns-then-is_rest_over-clause-passes
returns-then-is_rest_over-clause-passes c = λ q o e.
    turn_spent (sent o e (world_of q c.args.state.now)) c.args.starters.now c.args.index
    c.requires.within c.args.goes_on c.if-not-goes_on.false
    (c.is_rest_over.ensures q o e ∙ c.if-is_rest_over.true)
    ∙ c.pass_rests-then-is_rest_over.ensures.passes q o e

pub returns-clause-passes : goal.returns-clause-passes
returns-clause-passes c = λ q o e.
    turn_stays (sent o e (world_of q c.args.state.now)) c.args.starters.now c.args.index
    c.requires.within c.args.goes_on c.if-not-goes_on.false
    (c.is_rest_over.ensures q o e ∙ c.if-is_rest_over.false)
