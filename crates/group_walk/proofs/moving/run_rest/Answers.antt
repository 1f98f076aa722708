use Rattle.std.proofs.Common.{◌≡◌, ◌≤◌, arith, false, get_or, refl, sym, subst}
use Rattle.group_moves.specs.Places.{is_rest_over}
use Rattle.kernel_calls.specs.StateWorld.{HaveParts, sent, world_of}
use Rattle.group_rounds.proofs.PhaseLaws.{drop_at}
use Rattle.group_walk.proofs.Freely.{stands-still}
use Rattle.group_walk.proofs.Moved.{rest_there, rest_within}
use Rattle.group_walk.proofs.Passed.{comes_after, comes_serial}
use Rattle.group_walk.proofs.Stretching.{none-run, rest-runs-to}
use Rattle.group_walk.proofs.moving.run_rest.Goals as goal

pub step_on_keeping-steps-requires-clause-live : goal.step_on_keeping-steps-requires-clause-live
step_on_keeping-steps-requires-clause-live c =
    let s = c.args.state.now in
    let lt = rest_within s c.args.starters.now c.args.index c.requires.there in
    (rest_there s c.args.starters.now c.args.index lt c.requires.there).0

pub returns-then-steps-eq0 : goal.returns-then-steps-eq0
returns-then-steps-eq0 c =
    let s = c.args.state.now in
    let s' = c.step_on_keeping-steps.new.state in
    let lt = rest_within s c.args.starters.now c.args.index c.requires.there in
    let there = rest_there s c.args.starters.now c.args.index lt c.requires.there in
    let t = get_or c.args.starters.now c.args.index 0 in
    record {
      most = let zero : 0 ≤ c.args.most = omega arith in zero;
      runs = λ q limit begun made o e.
          none-run c.args.stops.now c.args.kept.now limit begun made c.args.starters.now
          c.args.index lt c.step_on_keeping-steps.result (sent o e (world_of q s))
          (sent o e (world_of q s')) _ c.if-steps-eq0.true
          (c.step_on_keeping-steps.ensures.steps q o e);
      comes = comes_serial s s' c.args.starters.now c.args.index _
          c.step_on_keeping-steps.ensures.sound c.step_on_keeping-steps.ensures.count
          c.step_on_keeping-steps.ensures.round lt refl (
            c.step_on_keeping-steps.ensures.live t there.0,
            c.step_on_keeping-steps.ensures.parts _ there.1,
            λ q o e. subst (λ w. is_rest_over w t ≡ false)
                (sym (stands-still c.args.stops.now c.args.kept.now c.step_on_keeping-steps.result
                (sent o e (world_of q s)) (sent o e (world_of q s')) t
                (c.step_on_keeping-steps.ensures.steps q o e) c.if-steps-eq0.true))
                (there.2 q o e),
          );
    }

pub pass_turn-phase-requires-clause-within : goal.pass_turn-phase-requires-clause-within
pass_turn-phase-requires-clause-within c =
    rest_within c.args.state.now c.args.starters.now c.args.index c.requires.there

pub pass_turn-phase-requires-clause-live : goal.pass_turn-phase-requires-clause-live
pass_turn-phase-requires-clause-live c = λ _.
    let s = c.args.state.now in
    let lt = rest_within s c.args.starters.now c.args.index c.requires.there in
    let there = rest_there s c.args.starters.now c.args.index lt c.requires.there in
    c.step_on_keeping-steps.ensures.live _ there.0

pub pass_turn-phase-requires-clause-parts : goal.pass_turn-phase-requires-clause-parts
pass_turn-phase-requires-clause-parts c =
    let s = c.args.state.now in
    let lt = rest_within s c.args.starters.now c.args.index c.requires.there in
    let there = rest_there s c.args.starters.now c.args.index lt c.requires.there in
    subst (λ ts. HaveParts ts c.step_on_keeping-steps.new.state)
    (sym (drop_at c.args.starters.now c.args.index lt))
    (c.step_on_keeping-steps.ensures.parts _ there.1)

pub returns : goal.returns
returns c =
    let s = c.args.state.now in
    let last = c.step_on_keeping-steps.new.state in
    let lt = rest_within s c.args.starters.now c.args.index c.requires.there in
    record {
      most = c.step_on_keeping-steps.ensures.most;
      runs = λ q limit begun made o e.
          rest-runs-to c.args.stops.now c.args.kept.now limit begun made c.args.starters.now
          c.args.index lt c.step_on_keeping-steps.result c.if-steps-eq0.false
          (sent o e (world_of q s)) (sent o e (world_of q last)) _
          (c.step_on_keeping-steps.ensures.steps q o e) c.step_on_keeping-steps.ensures.paid
          (c.pass_turn-phase.ensures.passes q o e);
      comes = comes_after s last c.pass_turn-phase.new.state _
          c.step_on_keeping-steps.ensures.count c.step_on_keeping-steps.ensures.round
          c.pass_turn-phase.ensures.comes;
    }
