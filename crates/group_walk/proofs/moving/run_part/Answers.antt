use Rattle.std.proofs.Common.{◌+◌, ◌≡◌, ◌≤◌, ◌∷◌, drop, get_or, false, arith, refl, sym, ◌∙◌, subst}
use Rattle.group_moves.specs.Places.{is_part_over}
use Rattle.kernel_calls.specs.StateWorld.{sent, world_of}
use Rattle.group_walk.proofs.Freely.{stands-still}
use Rattle.group_walk.proofs.Moved.{first_of_all, others_of, part_there, part_within}
use Rattle.group_walk.proofs.Passed.{all_live, comes_after, comes_parallel}
use Rattle.group_walk.proofs.Stretching.{none-run, part-passes, part-waits}
use Rattle.group_walk.proofs.moving.run_part.Goals as goal

pub step_on_keeping-steps-requires-clause-live : goal.step_on_keeping-steps-requires-clause-live
step_on_keeping-steps-requires-clause-live c =
    let s = c.args.state.now in
    let lt = part_within s c.args.starters.now c.args.index c.requires.there in
    let there = part_there s c.args.starters.now c.args.index lt c.requires.there in
    first_of_all s.table.threads _ _ there.0

pub returns-then-steps-eq0 : goal.returns-then-steps-eq0
returns-then-steps-eq0 c =
    let s = c.args.state.now in
    let s' = c.step_on_keeping-steps.new.state in
    let lt = part_within s c.args.starters.now c.args.index c.requires.there in
    let there = part_there s c.args.starters.now c.args.index lt c.requires.there in
    let t = get_or c.args.starters.now c.args.index 0 in
    record {
      most = let zero : 0 ≤ c.args.most = omega arith in zero;
      runs = λ q limit begun made o e.
          none-run c.args.stops.now c.args.kept.now limit begun made c.args.starters.now
          c.args.index lt
          c.step_on_keeping-steps.result (sent o e (world_of q s)) (sent o e (world_of q s')) _
          c.if-steps-eq0.true (c.step_on_keeping-steps.ensures.steps q o e);
      comes = comes_parallel s s' c.args.starters.now c.args.index _
          c.step_on_keeping-steps.ensures.sound
          c.step_on_keeping-steps.ensures.count c.step_on_keeping-steps.ensures.round lt refl (
            all_live s s' (t ∷ drop (c.args.index + 1) c.args.starters.now)
                c.step_on_keeping-steps.ensures.live there.0,
            c.step_on_keeping-steps.ensures.parts c.args.starters.now there.1,
            λ q o e. subst (λ w. is_part_over w t ≡ false)
                (sym (stands-still c.args.stops.now c.args.kept.now c.step_on_keeping-steps.result
                (sent o e (world_of q s)) (sent o e (world_of q s')) t
                (c.step_on_keeping-steps.ensures.steps q o e) c.if-steps-eq0.true)) (there.2 q o e),
          );
    }

pub is_part_over-requires-clause-live : goal.is_part_over-requires-clause-live
is_part_over-requires-clause-live c =
    let s = c.args.state.now in
    let lt = part_within s c.args.starters.now c.args.index c.requires.there in
    let there = part_there s c.args.starters.now c.args.index lt c.requires.there in
    c.step_on_keeping-steps.ensures.live _ (first_of_all s.table.threads _ _ there.0)

pub pass_parts-phase-requires-clause-live : goal.pass_parts-phase-requires-clause-live
pass_parts-phase-requires-clause-live c =
    let s = c.args.state.now in
    let lt = part_within s c.args.starters.now c.args.index c.requires.there in
    let there = part_there s c.args.starters.now c.args.index lt c.requires.there in
    all_live s c.step_on_keeping-steps.new.state (drop (c.args.index + 1) c.args.starters.now)
    c.step_on_keeping-steps.ensures.live (others_of s.table.threads _ _ there.0)

pub pass_parts-phase-requires-clause-parts : goal.pass_parts-phase-requires-clause-parts
pass_parts-phase-requires-clause-parts c =
    let s = c.args.state.now in
    let lt = part_within s c.args.starters.now c.args.index c.requires.there in
    let there = part_there s c.args.starters.now c.args.index lt c.requires.there in
    c.step_on_keeping-steps.ensures.parts c.args.starters.now there.1

pub returns-then-is_part_over : goal.returns-then-is_part_over
returns-then-is_part_over c =
    let s = c.args.state.now in
    let s' = c.step_on_keeping-steps.new.state in
    let lt = part_within s c.args.starters.now c.args.index c.requires.there in
    record {
      most = c.step_on_keeping-steps.ensures.most;
      runs = λ q limit begun made o e.
          part-passes c.args.stops.now c.args.kept.now limit begun made c.args.starters.now
          c.args.index lt
          c.step_on_keeping-steps.result c.if-steps-eq0.false (sent o e (world_of q s))
          (sent o e (world_of q s')) _ (c.step_on_keeping-steps.ensures.steps q o e)
          c.step_on_keeping-steps.ensures.paid (c.is_part_over.ensures q o e
          ∙ c.if-is_part_over.true)
          (c.pass_parts-phase.ensures.passes q o e);
      comes = comes_after s s' c.pass_parts-phase.new.state _ c.step_on_keeping-steps.ensures.count
          c.step_on_keeping-steps.ensures.round c.pass_parts-phase.ensures.comes;
    }

pub returns : goal.returns
returns c =
    let s = c.args.state.now in
    let s' = c.step_on_keeping-steps.new.state in
    let lt = part_within s c.args.starters.now c.args.index c.requires.there in
    let there = part_there s c.args.starters.now c.args.index lt c.requires.there in
    record {
      most = c.step_on_keeping-steps.ensures.most;
      runs = λ q limit begun made o e.
          part-waits c.args.stops.now c.args.kept.now limit begun made c.args.starters.now
          c.args.index lt
          c.step_on_keeping-steps.result c.if-steps-eq0.false (sent o e (world_of q s))
          (sent o e (world_of q s')) (c.step_on_keeping-steps.ensures.steps q o e)
          c.step_on_keeping-steps.ensures.paid (c.is_part_over.ensures q o e
          ∙ c.if-is_part_over.false);
      comes = comes_parallel s s' c.args.starters.now c.args.index _
          c.step_on_keeping-steps.ensures.sound
          c.step_on_keeping-steps.ensures.count c.step_on_keeping-steps.ensures.round lt refl (
            all_live s s' (get_or c.args.starters.now c.args.index 0
                ∷ drop (c.args.index + 1) c.args.starters.now)
                c.step_on_keeping-steps.ensures.live there.0,
            c.step_on_keeping-steps.ensures.parts c.args.starters.now there.1,
            λ q o e. c.is_part_over.ensures q o e ∙ c.if-is_part_over.false,
          );
    }
