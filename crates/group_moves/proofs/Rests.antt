-- The moves of the serial phase.
use Rattle.std.proofs.Common.{ℕ, zero, suc, ◌≡◌, refl, sym, ap, ◌∙◌, subst, List, [], ◌∷◌}
use Rattle.std.proofs.Common.{Bool, false, Option, Some, None, is_some, is_none, Result, Ok, Err}
use Rattle.std.proofs.Common.{if◌then◌else◌, ◌==◌, ◌||◌, arith}
use Rattle.std.proofs.lemmas.Bool.{ne_eqb, or_right}
use Rattle.dos_world.specs.World.{World, Thread, thread_at}
use Rattle.dos_world.specs.Play.{Play, Answer, done, ◌>>=◌, gives, over}
use Rattle.dos_world.specs.Services.{service_for}
use Rattle.dos_world.specs.declared.Reason.{Reason}
use Rattle.dos_world.specs.declared.Reason.TheVariants.{Page, Fault, Service}
use Rattle.dos_world.proofs.PlayLaws.{then_assoc}
use Rattle.flat_machine.specs.Step.{step, step_of}
use Rattle.flat_machine.specs.Alone.{budget_of, emptied}
use Rattle.flat_machine.specs.Rest.{Turn, on, over_with, settled, page_granted, after_step, turn}
use Rattle.flat_machine.specs.Rest.{turns, service_done, rest_of, serial_of}
use Rattle.flat_machine.specs.Round.{counted}
use Rattle.group_moves.specs.Places.{Scene, between_rounds, within_rest, to_rests, passed_on}
use Rattle.group_moves.specs.Moves.{kind_by, rest_turn}
use Rattle.group_moves.specs.Moments.{Moment, moment_at, moment_behind, settled_scene}
use Rattle.group_moves.proofs.Budgets.{budget_is, has_left, emptied_keeps, turn_costs}
use Rattle.group_moves.proofs.Leading.{Led, nowhere, move_led, then_led}

-- ---- who is gone has no turn

gone_step : (w : World) (t : ℕ) → thread_at w t ≡ None → step w t ≡ Err Service
gone_step w t gone = ap (step_of w t) gone

gone_settled : (w : World) (t : ℕ) → step w t ≡ Err Service → settled 3 w t ≡ (w, Err Service)
gone_settled w t stops = ap by_step stops
  where
    by_step : Result World Reason → World × Result World Reason
    by_step r =
        elim r [
          | Ok next ↦ (w, Ok next)
          | Err reason ↦ elim reason [
            | Page address access ↦ settled 2 (page_granted w t address access) t
            | Fault number ↦ (w, Err (Fault number))
            | Service ↦ (w, Err Service)
          ]
        ]

gone_turn : (w : World) (t : ℕ) → thread_at w t ≡ None → turn w t ≡ done (over_with w)
gone_turn w t gone =
    ap (λ s. after_step t s.0 s.1) (gone_settled w t (gone_step w t gone))
    ∙ ap (λ served. served >>= service_done) (ap (service_for w t) gone)

-- ---- the kind of a turn is no begin

rest_behind : (t begun made : ℕ) (start scene : Scene) (r : Result World Reason)
    → moment_behind (kind_by t r) (moment_at begun made start) scene
    ≡ moment_at begun (suc made) scene
rest_behind t begun made start scene (Ok next) = refl
rest_behind t begun made start scene (Err (Page address access)) = refl
rest_behind t begun made start scene (Err (Fault number)) = refl
rest_behind t begun made start scene (Err Service) = refl

module _ (limit begun : ℕ) (starters : List ℕ) where
  -- ---- one thread's part

  -- the turns behind one
  abbrev goes_on : ℕ → ℕ → Turn → Play World
  goes_on left t taken =
      elim taken [ on next ↦ turns left next t | over_with last ↦ done last ]

  -- what is left to do after a turn
  abbrev after_turn : ℕ → ℕ → List ℕ → Turn → Play Scene
  after_turn left t ts taken =
      goes_on left t taken >>= λ last. done (to_rests last starters ts)

  abbrev RestLed : ℕ → ℕ → List ℕ → Type 0
  RestLed left t ts =
      (w : World) (answers : List Answer) (made : ℕ) → budget_of w t ≡ left
      → Led limit answers (moment_at begun made (passed_on w (within_rest starters t ts))) begun
      (turns left w t >>= λ last. done (to_rests last starters ts))

  turn_led : (left t : ℕ) (ts : List ℕ) → RestLed left t ts
      → (w : World) (answers : List Answer) (made : ℕ) → budget_of w t ≡ suc left
      → Led limit answers (moment_at begun made (w, within_rest starters t ts)) begun
      (turns (suc left) w t >>= λ last. done (to_rests last starters ts))
  turn_led left t ts again w answers made budget =
      subst (Led limit answers here begun)
      (sym (then_assoc (turn w t) (goes_on left t) (λ last. done (to_rests last starters ts))))
      (then_led limit answers here begun (turn w t)
      (λ taken. settled_scene (rest_turn starters t ts taken)) (after_turn left t ts)
      (subst (Led limit answers here begun)
      (then_assoc (turn w t) (λ taken. done (rest_turn starters t ts taken))
      (λ s. done (settled_scene s)))
      (move_led limit answers here (kind_by t (settled 3 w t).1) begun (suc made) refl
      (λ scene. rest_behind t begun made (w, within_rest starters t ts) scene (settled 3 w t).1)))
      by_turn)
    where
      here : Moment
      here = moment_at begun made (w, within_rest starters t ts)

      by_turn : (taken : Turn) (rest : List Answer) (made : ℕ)
          → over answers (turn w t) ≡ gives taken rest
          → Led limit rest
          (moment_at begun made (settled_scene (rest_turn starters t ts taken))) begun
          (after_turn left t ts taken)
      by_turn (on next) rest made given =
          again next rest made
          (budget_is next t left
          (turn_costs w next t left answers rest (has_left w t left budget) given))
      by_turn (over_with last) rest made given =
          nowhere limit rest begun made (to_rests last starters ts)

  -- where it stands, by whether it is gone and by the test of its budget
  abbrev rest_at : World → ℕ → List ℕ → ℕ → Bool → Bool → Moment
  rest_at w t ts made gone spent =
      moment_at begun made
      (if gone || spent then to_rests w starters ts else (w, within_rest starters t ts))

  pub rest_led : (left t : ℕ) (ts : List ℕ) → RestLed left t ts
  rest_led zero t ts w answers made budget =
      subst
      (λ over_now. Led limit answers
      (moment_at begun made
      (if over_now then to_rests w starters ts else (w, within_rest starters t ts))) begun
      (done (to_rests w starters ts)))
      (sym (or_right (is_none (thread_at w t)) (budget_of w t == 0) (ap (λ b. b == 0) budget)))
      (nowhere limit answers begun made (to_rests w starters ts))
  rest_led (suc left) t ts w answers made budget =
      subst
      (λ spent. Led limit answers (rest_at w t ts made (is_none (thread_at w t)) spent) begun
      (turns (suc left) w t >>= λ last. done (to_rests last starters ts)))
      (sym (ne_eqb (budget_of w t) 0 (λ e. omega (arith, budget, e))))
      (by_thread (rest_led left t ts) (thread_at w t) refl)
    where
      by_thread : RestLed left t ts → (x : Option Thread) → thread_at w t ≡ x
          → Led limit answers (rest_at w t ts made (is_none x) false)
          begun (turns (suc left) w t >>= λ last. done (to_rests last starters ts))
      by_thread again None gone =
          subst
          (λ taken. Led limit answers (moment_at begun made (to_rests w starters ts)) begun
          ((taken >>= goes_on left t) >>= λ last. done (to_rests last starters ts)))
          (sym (gone_turn w t gone))
          (nowhere limit answers begun made (to_rests w starters ts))
      by_thread again (Some thread) lives = turn_led left t ts again w answers made budget

  -- ---- the phase

  -- where a thread comes to the front
  abbrev rest_start : World → ℕ → List ℕ → Scene
  rest_start w t ts = passed_on (emptied w t) (within_rest starters t ts)

  pub rests_led : (ts : List ℕ) (w : World) (answers : List Answer) (made : ℕ)
      → Led limit answers (moment_at begun made (to_rests w starters ts)) begun
      (serial_of w ts >>= λ last. done (counted last, between_rounds))
  rests_led [] w answers made = nowhere limit answers begun made (counted w, between_rounds)
  rests_led (t ∷ ts) w answers made =
      by_thread (λ v rest made. rests_led ts v rest made) (thread_at w t)
    where
      by_thread : ((v : World) (rest : List Answer) (made : ℕ)
          → Led limit rest (moment_at begun made (to_rests v starters ts)) begun
          (serial_of v ts >>= λ last. done (counted last, between_rounds)))
          → (x : Option Thread)
          → Led limit answers
          (moment_at begun made
          (if is_none x then to_rests w starters ts else
          rest_start w t ts))
          begun
          (((if is_some x then rest_of w t else done w) >>= λ next. serial_of next ts)
          >>= λ last. done (counted last, between_rounds))
      by_thread again None = again w answers made
      by_thread again (Some thread) =
          subst
          (Led limit answers
          (moment_at begun made (rest_start w t ts))
          begun)
          (sym (then_assoc (rest_of w t) (λ next. serial_of next ts)
          (λ last. done (counted last, between_rounds))))
          (then_led limit answers
          (moment_at begun made (rest_start w t ts))
          begun (rest_of w t) (λ v. to_rests v starters ts)
          (λ v. serial_of v ts >>= λ last. done (counted last, between_rounds))
          (rest_led (budget_of w t) t ts (emptied w t) answers made (emptied_keeps w t))
          (λ v rest made given. again v rest made))
