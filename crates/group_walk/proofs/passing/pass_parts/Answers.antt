use Rattle.std.proofs.Common.{◌+◌, drop, get_or, refl, ◌∙◌}
use Rattle.kernel_calls.specs.StateWorld.{sent, world_of}
use Rattle.group_walk.proofs.Passed.{all_front, all_live, comes_parallel, front_lives, others_live}
use Rattle.group_walk.proofs.Passed.{parts_on}
use Rattle.group_walk.proofs.passing.pass_parts.Goals as goal

pub comes_to_part-requires-clause-live : goal.comes_to_part-requires-clause-live
comes_to_part-requires-clause-live c =
    front_lives c.loop-index.state.table.threads c.args.starters.now c.loop-index.index
    c.loop-index-test.true c.loop-index.invariant.live

pub returns-then-comes_to_part-clause-comes : goal.returns-then-comes_to_part-clause-comes
returns-then-comes_to_part-clause-comes c =
    comes_parallel c.args.state.now c.comes_to_part.new.state c.args.starters.now
    c.loop-index.index _ c.comes_to_part.ensures.sound
    (c.comes_to_part.ensures.count ∙ c.loop-index.invariant.count)
    (c.comes_to_part.ensures.round ∙ c.loop-index.invariant.round) c.loop-index-test.true refl (
      all_front c.comes_to_part.new.state.table.threads c.args.starters.now c.loop-index.index
          c.loop-index-test.true
          (all_live c.loop-index.state c.comes_to_part.new.state
          (drop c.loop-index.index c.args.starters.now) c.comes_to_part.ensures.live
          c.loop-index.invariant.live) _ refl,
      c.comes_to_part.ensures.parts c.args.starters.now c.loop-index.invariant.parts,
      c.comes_to_part.ensures.there c.if-comes_to_part.true,
    )

pub loop-index-preserved : goal.loop-index-preserved
loop-index-preserved c = record {
  passes = λ q o e. c.loop-index.invariant.passes q o e
      ∙ parts_on (sent o e (world_of q c.loop-index.state)) c.args.starters.now c.loop-index.index
      (get_or c.args.starters.now c.loop-index.index 0) c.loop-index-test.true refl
      (sent o e (world_of q c.comes_to_part.new.state)) c.comes_to_part.result
      (c.comes_to_part.ensures.comes q o e c.args.starters.now
      (drop (c.loop-index.index + 1) c.args.starters.now)) c.if-comes_to_part.false;
  sound = c.comes_to_part.ensures.sound;
  live = all_live c.loop-index.state c.comes_to_part.new.state
      (drop (c.loop-index.index + 1) c.args.starters.now) c.comes_to_part.ensures.live
      (others_live c.loop-index.state.table.threads c.args.starters.now c.loop-index.index
      c.loop-index-test.true c.loop-index.invariant.live);
  parts = c.comes_to_part.ensures.parts c.args.starters.now c.loop-index.invariant.parts;
  round = c.comes_to_part.ensures.round ∙ c.loop-index.invariant.round;
  count = c.comes_to_part.ensures.count ∙ c.loop-index.invariant.count;
}
