use Rattle.std.proofs.Common.{◌+◌, [], ◌∷◌, drop, get_or, refl, ◌∙◌}
use Rattle.kernel_calls.specs.StateWorld.{sent, world_of}
use Rattle.group_walk.proofs.Moved.{first_of_all, others_of, part_there, part_within, run_passes}
use Rattle.group_walk.proofs.Moved.{run_stays}
use Rattle.group_walk.proofs.Passed.{all_live, comes_after, comes_parallel}
use Rattle.group_walk.proofs.Turned.{part_on}
use Rattle.group_walk.proofs.moving.run_next.Goals as goal

pub step_once-requires-clause-live : goal.step_once-requires-clause-live
step_once-requires-clause-live c =
    let s = c.args.state.now in
    let lt = part_within s c.args.starters.now c.args.index c.requires.there in
    let there = part_there s c.args.starters.now c.args.index lt c.requires.there in
    first_of_all s.table.threads _ _ there.0

pub step_once-requires-clause-budget : goal.step_once-requires-clause-budget
step_once-requires-clause-budget c =
    let s = c.args.state.now in
    let lt = part_within s c.args.starters.now c.args.index c.requires.there in
    let there = part_there s c.args.starters.now c.args.index lt c.requires.there in
    (part_on (world_of 0 s) _ (there.2 0 [] [])).0

pub step_once-requires-clause-goes_on : goal.step_once-requires-clause-goes_on
step_once-requires-clause-goes_on c = λ q o e.
    let s = c.args.state.now in
    let lt = part_within s c.args.starters.now c.args.index c.requires.there in
    let there = part_there s c.args.starters.now c.args.index lt c.requires.there in
    (part_on (sent o e (world_of q s)) _ (there.2 q o e)).1

pub is_part_over-requires-clause-live : goal.is_part_over-requires-clause-live
is_part_over-requires-clause-live c =
    let s = c.args.state.now in
    let lt = part_within s c.args.starters.now c.args.index c.requires.there in
    let there = part_there s c.args.starters.now c.args.index lt c.requires.there in
    c.step_once.ensures.live _ (first_of_all s.table.threads _ _ there.0)

pub pass_parts-requires-clause-live : goal.pass_parts-requires-clause-live
pass_parts-requires-clause-live c =
    let s = c.args.state.now in
    let lt = part_within s c.args.starters.now c.args.index c.requires.there in
    let there = part_there s c.args.starters.now c.args.index lt c.requires.there in
    all_live s c.step_once.new.state (drop (c.args.index + 1) c.args.starters.now)
    c.step_once.ensures.live (others_of s.table.threads _ _ there.0)

pub pass_parts-requires-clause-parts : goal.pass_parts-requires-clause-parts
pass_parts-requires-clause-parts c =
    let s = c.args.state.now in
    let lt = part_within s c.args.starters.now c.args.index c.requires.there in
    let there = part_there s c.args.starters.now c.args.index lt c.requires.there in
    c.step_once.ensures.parts c.args.starters.now there.1

pub returns-then-is_part_over : goal.returns-then-is_part_over
returns-then-is_part_over c =
    let s = c.args.state.now in
    let lt = part_within s c.args.starters.now c.args.index c.requires.there in
    record {
      moves = λ q o e.
          run_passes (sent o e (world_of q s)) (sent o e (world_of q c.step_once.new.state))
          c.args.starters.now c.args.index lt (c.step_once.ensures.steps q o e) _
          (c.is_part_over.ensures q o e ∙ c.if-is_part_over.true)
          (c.pass_parts.ensures.passes q o e);
      comes = comes_after s c.step_once.new.state c.pass_parts.new.state _
          c.step_once.ensures.count c.step_once.ensures.round c.pass_parts.ensures.comes;
    }

pub returns : goal.returns
returns c =
    let s = c.args.state.now in
    let s' = c.step_once.new.state in
    let lt = part_within s c.args.starters.now c.args.index c.requires.there in
    let there = part_there s c.args.starters.now c.args.index lt c.requires.there in
    record {
      moves = λ q o e.
          run_stays (sent o e (world_of q s)) (sent o e (world_of q s')) c.args.starters.now
          c.args.index lt (c.step_once.ensures.steps q o e)
          (c.is_part_over.ensures q o e ∙ c.if-is_part_over.false);
      comes = comes_parallel s s' c.args.starters.now c.args.index _ c.step_once.ensures.sound
          c.step_once.ensures.count c.step_once.ensures.round lt refl (
            all_live s s' (get_or c.args.starters.now c.args.index 0
                ∷ drop (c.args.index + 1) c.args.starters.now) c.step_once.ensures.live there.0,
            c.step_once.ensures.parts c.args.starters.now there.1,
            λ q o e. c.is_part_over.ensures q o e ∙ c.if-is_part_over.false,
          );
    }
