-- The moves of the parallel phase.
use Rattle.std.proofs.Common.{ℕ, zero, suc, ◌≡◌, refl, sym, subst, List, [], ◌∷◌}
use Rattle.std.proofs.Common.{Bool, false, Result, Ok, Err, is_err, if◌then◌else◌, ◌==◌, ◌||◌}
use Rattle.std.proofs.Common.{arith}
use Rattle.std.proofs.lemmas.Bool.{ne_eqb}
use Rattle.dos_world.specs.World.{World}
use Rattle.dos_world.specs.Play.{Answer, Outcome, gives, done}
use Rattle.dos_world.specs.declared.Reason.{Reason}
use Rattle.flat_machine.specs.Step.{step}
use Rattle.flat_machine.specs.Alone.{budget_of, emptied, steps}
use Rattle.flat_machine.specs.Round.{all_alone}
use Rattle.group_moves.specs.Places.{within_part, to_parts, to_rests, passed_on}
use Rattle.group_moves.specs.Moves.{runs, part_step}
use Rattle.group_moves.specs.Moments.{Moment, moment_at, settled_scene}
use Rattle.group_moves.proofs.Budgets.{budget_is, has_left, emptied_keeps, step_costs}
use Rattle.group_moves.proofs.Leading.{Led, nowhere, move_led, then_led}

module _ (limit begun : ℕ) (starters : List ℕ) where
  -- one thread's part, where its budget is so much
  abbrev PartLed : ℕ → ℕ → List ℕ → Type 0
  PartLed left t ts =
      (w : World) (answers : List Answer) (made : ℕ) → budget_of w t ≡ left
      → Led limit answers (moment_at begun made (passed_on w (within_part starters t ts))) begun
      (done (to_parts (steps left w t) starters ts))

  -- where it stands, by the test of its budget and by whether it stops
  abbrev part_at : World → ℕ → List ℕ → ℕ → Bool → Bool → Moment
  part_at w t ts made spent stops =
      moment_at begun made
      (if spent || stops then to_parts w starters ts else (w, within_part starters t ts))

  -- an instruction, or the end of the part
  step_led : (left t : ℕ) (ts : List ℕ) → PartLed left t ts
      → (w : World) (answers : List Answer) (made : ℕ) → budget_of w t ≡ suc left
      → (r : Result World Reason) → step w t ≡ r
      → Led limit answers (part_at w t ts made false (is_err r)) begun
      (done (to_parts
      (elim r as (λ _. World) [ Ok next ↦ steps left next t | Err reason ↦ w ]) starters ts))
  step_led left t ts again w answers made budget (Ok next) is =
      then_led limit answers here begun (done next)
      (λ v. passed_on v (within_part starters t ts))
      (λ v. done (to_parts (steps left v t) starters ts))
      (subst
      (λ r. Led limit answers here begun (done (settled_scene (part_step starters t ts w r)))) is
      (move_led limit answers here (runs t) begun (suc made) refl (λ scene. refl)))
      (λ v rest made given. again v rest made
      (subst (λ u. budget_of u t ≡ left) (same v rest given)
      (budget_is next t left
      (step_costs w next t left is (has_left w t left budget)))))
    where
      here : Moment
      here = moment_at begun made (w, within_part starters t ts)

      same : (v : World) (rest : List Answer)
          → ◌≡◌ {A = Outcome World} (gives next answers) (gives v rest) → next ≡ v
      same v rest given = cc
  step_led left t ts again w answers made budget (Err reason) is =
      nowhere limit answers begun made (to_parts w starters ts)

  pub part_led : (left t : ℕ) (ts : List ℕ) → PartLed left t ts
  part_led zero t ts w answers made budget =
      subst
      (λ b. Led limit answers (part_at w t ts made (b == 0) (is_err (step w t))) begun
      (done (to_parts w starters ts))) (sym budget)
      (nowhere limit answers begun made (to_parts w starters ts))
  part_led (suc left) t ts w answers made budget =
      subst
      (λ spent. Led limit answers (part_at w t ts made spent (is_err (step w t))) begun
      (done (to_parts (steps (suc left) w t) starters ts)))
      (sym (ne_eqb (budget_of w t) 0 (λ e. omega (arith, budget, e))))
      (step_led left t ts (part_led left t ts) w answers made budget (step w t) refl)

  -- these threads' parts, one after another
  pub parts_led : (ts : List ℕ) (w : World) (answers : List Answer) (made : ℕ)
      → Led limit answers (moment_at begun made (to_parts w starters ts)) begun
      (done (to_rests (all_alone w ts) starters starters))
  parts_led [] w answers made = nowhere limit answers begun made (to_rests w starters starters)
  parts_led (t ∷ ts) w answers made =
      then_led limit answers (moment_at begun made (to_parts w starters (t ∷ ts))) begun
      (done (steps (budget_of w t) (emptied w t) t))
      (λ v. to_parts v starters ts)
      (λ v. done (to_rests (all_alone v ts) starters starters))
      (part_led (budget_of w t) t ts (emptied w t) answers made (emptied_keeps w t))
      (λ v rest made given. parts_led ts v rest made)
