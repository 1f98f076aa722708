-- Instructions of one thread as moves, one after another.
use Rattle.std.proofs.Common.{ℕ, zero, suc, ◌+◌, ◌-◌, ◌<◌, ◌≡◌, refl, sym, ap, ap₂, ◌∙◌, subst}
use Rattle.std.proofs.Common.{List, Option, Some, None, option_map, Result, Ok, Err, arith}
use Rattle.std.proofs.Common.{cond, true, false, eqb, drop, get_or, length, map}
use Rattle.std.specs.Prelude.{All, is_none, ◌||◌}
use Rattle.std.proofs.lemmas.Bool.{ne_eqb}
use Rattle.dos_world.specs.World.{World, Thread, thread_at}
use Rattle.dos_world.specs.Play.{done, ◌>>=◌}
use Rattle.dos_world.specs.declared.Reason.{Reason}
use Rattle.dos_world.specs.declared.Reason.TheVariants.{Page, Fault, Service}
use Rattle.flat_machine.specs.Alone.{budget_of}
use Rattle.flat_machine.specs.Rest.{settled}
use Rattle.flat_machine.specs.Step.{paid_by, step}
use Rattle.flat_machine.proofs.Forms.{step-form}
use Rattle.group_moves.specs.Moments.{moment_at, settled_scene}
use Rattle.group_moves.specs.Moves.{kind_by, part_step, rest_turn, runs}
use Rattle.group_moves.specs.Places.{Place, Scene, is_part_over, is_rest_over, to_parts, to_rests}
use Rattle.group_moves.specs.Places.{within_part, within_rest}
use Rattle.kernel_calls.specs.StateWorld.{sent, world_of}
use Rattle.kernel_calls.specs.declared.state.State.{State}
use Rattle.proc_table.specs.Tables.{IsLiveThread, Tables, thread_in}
use Rattle.group_rounds.specs.Parts.{budget_in}
use Rattle.group_rounds.proofs.PhaseLaws.{drop_at}
use Rattle.group_rounds.proofs.ThreadRunLaws.{thread_in-by}
use Rattle.group_walk.specs.Needs.{reason_of}
use Rattle.group_walk.specs.Places.{at_part, at_rest, place_at}
use Rattle.group_walk.specs.declared.walker.Phase.TheVariants.{Parallel}
use Rattle.group_walk.specs.Stretches.{IsElsewhere, IsSameGroup, KeepsFrame, GoesManyOn}
use Rattle.group_walk.specs.Stretches.{GoesOneOn, StepsOn}
use Rattle.group_walk.proofs.Freely.{stands-still}
use Rattle.group_walk.proofs.SameGroup.{bytes-settled, keeps-with, same-settled, same-step}
use Rattle.group_walk.proofs.SameGroup.{same-then}
use Rattle.group_walk.proofs.Turned.{part_goes_on, settled_done, turn_steps}

-- ---- what an instruction costs

-- the thread behind its instruction
thread-behind : (w next : World) (t : ℕ) → step w t ≡ Ok next → (x : Thread)
    → thread_at w t ≡ Some x
    → (y : Thread) × (thread_at next t ≡ Some y) × (y.budget ≡ x.budget - 1)
thread-behind w next t steps x is =
    let form = step-form w next t steps in (
      paid_by form.registers x,
      ap (λ (v : World). thread_at v t) form.is
          ∙ thread_in-by (paid_by form.registers) w.threads t
          ∙ ap (option_map (paid_by form.registers)) is,
      refl,
    )

budget-there : (w : World) (t : ℕ) (x : Thread) → thread_at w t ≡ Some x
    → budget_of w t ≡ x.budget
budget-there w t x is = ap (λ o. elim o as (λ _. ℕ) [ None ↦ 0 | Some y ↦ y.budget ]) is

-- who has a budget lives
who-has : (w : World) (t : ℕ) → 0 < budget_of w t → (x : Thread) × (thread_at w t ≡ Some x)
who-has w t some = go (thread_at w t) some
  where
    go : (o : Option Thread)
        → 0 < (elim o as (λ _. ℕ) [ None ↦ 0 | Some x ↦ x.budget ]) → (x : Thread) × (o ≡ Some x)
    go None h = absurd (omega (arith, h))
    go (Some x) h = (x, refl)

one-less : (w next : World) (t : ℕ) → step w t ≡ Ok next → 0 < budget_of w t
    → budget_of next t ≡ budget_of w t - 1
one-less w next t steps some =
    let here = who-has w t some in
    let there = thread-behind w next t steps here.0 here.1 in
    budget-there next t there.0 there.1 ∙ there.2
    ∙ ap (λ n. n - 1) (sym (budget-there w t here.0 here.1))

goes-on : (w next : World) (t : ℕ) → step w t ≡ Ok next → reason_of (step w t) ≡ None
goes-on w next t steps = ap reason_of steps

-- ---- the parallel phase

module _ (stops kept : List ℕ) (limit begun t : ℕ) (starters ts : List ℕ) where
  part-stays : (w : World) → is_part_over w t ≡ false
      → settled_scene (w, within_part starters t ts) ≡ (w, within_part starters t ts)
  part-stays w is = ap (λ b. cond b (to_parts w starters ts) (w, within_part starters t ts)) is

  part-runs : (w next : World) (made : ℕ) (scene : Scene) → IsElsewhere stops (thread_at w t)
      → step w t ≡ Ok next → All (KeepsFrame w next) kept
      → settled_scene (next, within_part starters t ts) ≡ scene
      → GoesOneOn stops kept limit t (moment_at begun made (w, within_part starters t ts))
      (moment_at begun (suc made) scene)
  part-runs w next made scene elsewhere steps keeps settles = record {
    kind = refl;
    elsewhere = elsewhere;
    scene = (next, within_part starters t ts);
    move = ap (λ r. done (part_step starters t ts w r)) steps;
    behind = ap (moment_at begun (suc made)) (sym settles);
    same = same-then w next scene.0 (same-step w next t steps)
        (subst (λ (s : Scene). IsSameGroup next s.0) settles
        (same-settled next (within_part starters t ts)));
    keeps = keeps-with w next scene.0 kept
        (ap (λ (s : Scene). s.0.bytes) (sym settles)
        ∙ bytes-settled next (within_part starters t ts)) keeps;
  }

  -- instructions, the last of which settles so
  pub parts-run : (count : ℕ) (w last : World) (made : ℕ) (scene : Scene)
      → StepsOn stops kept (suc count) w t last
      → budget_of w t ≡ suc count + budget_of last t
      → settled_scene (last, within_part starters t ts) ≡ scene
      → GoesManyOn stops kept (suc count) limit t (moment_at begun made
      (w, within_part starters t ts))
      (moment_at begun (made + suc count) scene)
  parts-run zero w last made scene steps paid settles =
      let same : last ≡ steps.1.0 = steps.1.3 in
      let one : made + 1 ≡ suc made = omega arith in (
        moment_at begun (suc made) scene,
        part-runs w steps.1.0 made scene steps.0 steps.1.1 steps.1.2
            (ap (λ v. settled_scene (v, within_part starters t ts)) (sym same) ∙ settles),
        ap (λ n. moment_at begun n scene) one,
      )
  parts-run (suc count) w last made scene steps paid settles =
      let next = steps.1.0 in
      let less = one-less w next t steps.1.1 (omega (arith, paid)) in
      let left : budget_of next t ≡ suc count + budget_of last t = omega (arith, less, paid) in
      let stays = part-stays next (part_goes_on next t (λ none. omega (arith, left, none))
      (goes-on next steps.1.3.1.0 t steps.1.3.1.1)) in
      let all : suc made + suc count ≡ made + suc (suc count) = omega arith in (
        moment_at begun (suc made) (next, within_part starters t ts),
        part-runs w next made (next, within_part starters t ts) steps.0 steps.1.1 steps.1.2 stays,
        subst (λ n. GoesManyOn stops kept (suc count) limit t
            (moment_at begun (suc made) (next, within_part starters t ts))
            (moment_at begun n scene)) all
            (parts-run count next last (suc made) scene steps.1.3 left settles),
      )

  -- ---- the serial phase

  rest-stays : (w : World) → is_rest_over w t ≡ false
      → settled_scene (w, within_rest starters t ts) ≡ (w, within_rest starters t ts)
  rest-stays w is = ap (λ b. cond b (to_rests w starters ts) (w, within_rest starters t ts)) is

  rest-goes-on : (w : World) → 0 < budget_of w t → is_rest_over w t ≡ false
  rest-goes-on w some =
      let here = who-has w t some in
      ap (λ o. is_none o || eqb (budget_of w t) 0) here.1
      ∙ ne_eqb (budget_of w t) 0 (λ none. omega (arith, some, none))

  -- it needs no grant
  rest-runs : (w next : World) (made : ℕ) (scene : Scene) → IsElsewhere stops (thread_at w t)
      → step w t ≡ Ok next → All (KeepsFrame w next) kept
      → settled_scene (next, within_rest starters t ts) ≡ scene
      → GoesOneOn stops kept limit t (moment_at begun made (w, within_rest starters t ts))
      (moment_at begun (suc made) scene)
  rest-runs w next made scene elsewhere steps keeps settles =
      let grants = settled_done w t 3 (goes-on w next t steps) in
      record {
        kind = ap (λ (s : World × Result World Reason). Some (kind_by t s.1)) grants
            ∙ ap (λ r. Some (kind_by t r)) steps;
        elsewhere = elsewhere;
        scene = (next, within_rest starters t ts);
        move = ap (λ play. play >>= λ taken. done (rest_turn starters t ts taken))
            (turn_steps w w t grants next steps);
        behind = ap (moment_at begun (suc made)) (sym settles);
        same = same-then w next scene.0 (same-step w next t steps)
            (subst (λ (s : Scene). IsSameGroup next s.0) settles
            (same-settled next (within_rest starters t ts)));
        keeps = keeps-with w next scene.0 kept
            (ap (λ (s : Scene). s.0.bytes) (sym settles)
            ∙ bytes-settled next (within_rest starters t ts)) keeps;
      }

  pub rests-run : (count : ℕ) (w last : World) (made : ℕ) (scene : Scene)
      → StepsOn stops kept (suc count) w t last
      → budget_of w t ≡ suc count + budget_of last t
      → settled_scene (last, within_rest starters t ts) ≡ scene
      → GoesManyOn stops kept (suc count) limit t (moment_at begun made
      (w, within_rest starters t ts))
      (moment_at begun (made + suc count) scene)
  rests-run zero w last made scene steps paid settles =
      let same : last ≡ steps.1.0 = steps.1.3 in
      let one : made + 1 ≡ suc made = omega arith in (
        moment_at begun (suc made) scene,
        rest-runs w steps.1.0 made scene steps.0 steps.1.1 steps.1.2
            (ap (λ u. settled_scene (u, within_rest starters t ts)) (sym same) ∙ settles),
        ap (λ n. moment_at begun n scene) one,
      )
  rests-run (suc count) w last made scene steps paid settles =
      let next = steps.1.0 in
      let less = one-less w next t steps.1.1 (omega (arith, paid)) in
      let left : budget_of next t ≡ suc count + budget_of last t = omega (arith, less, paid) in
      let stays = rest-stays next (rest-goes-on next (omega (arith, left))) in
      let all : suc made + suc count ≡ made + suc (suc count) = omega arith in (
        moment_at begun (suc made) (next, within_rest starters t ts),
        rest-runs w next made (next, within_rest starters t ts) steps.0 steps.1.1 steps.1.2
            stays,
        subst (λ n. GoesManyOn stops kept (suc count) limit t
            (moment_at begun (suc made) (next, within_rest starters t ts))
            (moment_at begun n scene)) all
            (rests-run count next last (suc made) scene steps.1.3 left settles),
      )

-- ---- at an index

module _ (stops kept : List ℕ) (limit begun made : ℕ) (starters : List ℕ) (index : ℕ)
    (lt : index < length starters) where
  abbrev here : ℕ
  here = get_or starters index 0

  abbrev others : List ℕ
  others = drop (index + 1) starters

  pub none-run : (count : ℕ) (w last : World) (place : Place) → count ≡ 0
      → StepsOn stops kept count w here last
      → moment_at begun (made + 0) (last, place) ≡ moment_at begun made (w, place)
  none-run count w last place none steps =
      let all : made + 0 ≡ made = omega arith in
      ap₂ (λ n v. moment_at begun n (v, place)) all
      (stands-still stops kept count w last here steps none)

  module _ (count : ℕ) (some : count ≡ 0 → ⊥) where
    part-runs-to : (w last : World) (scene : Scene) → StepsOn stops kept count w here last
        → budget_of w here ≡ count + budget_of last here
        → settled_scene (last, within_part starters here others) ≡ scene
        → GoesManyOn stops kept count limit here
        (moment_at begun made (w, at_part starters (drop index starters)))
        (moment_at begun (made + count) scene)
    part-runs-to w last scene steps paid settles =
        subst (λ xs. GoesManyOn stops kept count limit here
        (moment_at begun made (w, at_part starters xs))
        (moment_at begun (made + count) scene)) (sym (drop_at starters index lt))
        (go count some steps paid)
      where
        go : (n : ℕ) → (n ≡ 0 → ⊥) → StepsOn stops kept n w here last
            → budget_of w here ≡ n + budget_of last here
            → GoesManyOn stops kept n limit here
            (moment_at begun made (w, within_part starters here others))
            (moment_at begun (made + n) scene)
        go zero any h p = absurd (any refl)
        go (suc n) any h p =
            parts-run stops kept limit begun here starters others n w last made scene h p settles

    pub part-passes : (w last : World) (scene : Scene) → StepsOn stops kept count w here last
        → budget_of w here ≡ count + budget_of last here → is_part_over last here ≡ true
        → to_parts last starters others ≡ scene
        → GoesManyOn stops kept count limit here
        (moment_at begun made (w, at_part starters (drop index starters)))
        (moment_at begun (made + count) scene)
    part-passes w last scene steps paid over passes =
        part-runs-to w last scene steps paid
        (ap (λ b. cond b (to_parts last starters others) (last, within_part starters here others))
        over ∙ passes)

    pub part-waits : (w last : World) → StepsOn stops kept count w here last
        → budget_of w here ≡ count + budget_of last here → is_part_over last here ≡ false
        → GoesManyOn stops kept count limit here
        (moment_at begun made (w, at_part starters (drop index starters)))
        (moment_at begun (made + count) (last, place_at Parallel starters index))
    part-waits w last steps paid over =
        part-runs-to w last (last, place_at Parallel starters index) steps paid
        (part-stays stops kept limit begun here starters others last over
        ∙ ap (λ xs. (last, at_part starters xs)) (sym (drop_at starters index lt)))

    pub rest-runs-to : (w last : World) (scene : Scene) → StepsOn stops kept count w here last
        → budget_of w here ≡ count + budget_of last here
        → settled_scene (last, within_rest starters here others) ≡ scene
        → GoesManyOn stops kept count limit here
        (moment_at begun made (w, at_rest starters (drop index starters)))
        (moment_at begun (made + count) scene)
    rest-runs-to w last scene steps paid settles =
        subst (λ xs. GoesManyOn stops kept count limit here
        (moment_at begun made (w, at_rest starters xs))
        (moment_at begun (made + count) scene)) (sym (drop_at starters index lt))
        (go count some steps paid)
      where
        go : (n : ℕ) → (n ≡ 0 → ⊥) → StepsOn stops kept n w here last
            → budget_of w here ≡ n + budget_of last here
            → GoesManyOn stops kept n limit here
            (moment_at begun made (w, within_rest starters here others))
            (moment_at begun (made + n) scene)
        go zero any h p = absurd (any refl)
        go (suc n) any h p =
            rests-run stops kept limit begun here starters others n w last made scene h p settles
