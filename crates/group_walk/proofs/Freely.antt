-- Instructions in place, one after another: they are the same where more of the budget is left.
use Rattle.std.proofs.Common.{ℕ, zero, suc, ◌+◌, ◌-◌, ◌<◌, ◌≡◌, refl, sym, ap, ap₂, ◌∙◌, subst}
use Rattle.std.proofs.Common.{List, [], ◌∷◌, Option, Some, None, option_map, Result, Ok, Err, arith}
use Rattle.std.proofs.Common.{true, ◌⊎◌, inl, inr}
use Rattle.std.specs.Prelude.{All, MatchOption}
use Rattle.std.proofs.lemmas.Bool.{true≢false}
use Rattle.dos_world.specs.Numbered.{changed, changed_at}
use Rattle.dos_world.specs.World.{World, Thread, thread_at, with_thread, with_budget}
use Rattle.dos_world.specs.declared.Reason.{Reason}
use Rattle.flat_machine.specs.Laws.{after_steps}
use Rattle.flat_machine.specs.Step.{paid_by, step}
use Rattle.flat_machine.proofs.Forms.{step-form}
use Rattle.kernel_calls.specs.StateWorld.{sent, world_of}
use Rattle.kernel_calls.specs.declared.state.State.{State}
use Rattle.proc_table.specs.Tables.{IsLiveThread, Tables, thread_by, thread_in}
use Rattle.quantum_run.specs.ThreadRuns.{StartsElsewhere, is_stop_at}
use Rattle.group_rounds.specs.Parts.{IsAtOneOf, RanUpTo, budget_in}
use Rattle.group_rounds.proofs.Sound.{lives_by}
use Rattle.group_rounds.proofs.ThreadRunLaws.{same_change, some_of, thread_in-by}
use Rattle.group_walk.specs.Needs.{reason_of}
use Rattle.group_walk.specs.Stretches.{IsElsewhere, KeepsFrame, StepsOn}
use Rattle.group_walk.proofs.Stepping.{behind, changed-then, step-same}

-- ---- a thread that is as it was

unchanged : (ts : List (Option Thread)) (t : ℕ) → changed (option_map (λ (x : Thread). x)) ts t ≡ ts
unchanged ts zero = refl
unchanged ts (suc i) = at_place ts i
  where
    at_place : (ts : List (Option Thread)) (i : ℕ)
        → changed_at (option_map (λ (x : Thread). x)) ts i ≡ ts
    at_place [] i = refl
    at_place (None ∷ ts) zero = refl
    at_place (Some x ∷ ts) zero = refl
    at_place (x ∷ ts) (suc i) = ap (λ ys. x ∷ ys) (at_place ts i)

-- a thread that is given a budget, and then its own again
budget-back : (w : World) (t b n : ℕ) (x : Thread) → thread_at w t ≡ Some x → n ≡ x.budget
    → with_thread (with_thread w t (with_budget b)) t (with_budget n) ≡ w
budget-back w t b n x is own =
    ap (λ ts. record w { threads = ts })
    (changed-then (with_budget b) (with_budget n) w.threads t
    ∙ same_change (λ y. with_budget n (with_budget b y)) (λ y. y) w.threads t x is
    (ap (λ m. with_budget m x) own)
    ∙ unchanged w.threads t)

-- ---- with more of the budget left

-- of no frames each keeps its bytes
none-keeps : (w next : World) → All (KeepsFrame w next) []
none-keeps w next = λ place d less. absurd (omega (arith, less))

module _ (t : ℕ) where
  abbrev given : ℕ → World → World
  given b w = with_thread w t (with_budget b)

  -- a step is the same, and leaves one less
  step_given : (u next : World) (b : ℕ) (x : Thread) → thread_at u t ≡ Some x
      → step u t ≡ Ok next → step (given b u) t ≡ Ok (given (b - 1) next)
  step_given u next b x is steps =
      sym (step-same (given b u) t x.budget (b - 1) (with_budget b x)
      (thread_in-by (with_budget b) u.threads t ∙ ap (option_map (with_budget b)) is) refl)
      ∙ ap (λ v. behind (given (b - 1)) (step v t)) (budget-back u t b x.budget x is refl)
      ∙ ap (behind (given (b - 1))) steps

  -- and it begins at the same address
  elsewhere_given : (stops : List ℕ) (u : World) (b : ℕ) → IsElsewhere stops (thread_at u t)
      → IsElsewhere stops (thread_at (given b u) t)
  elsewhere_given stops u b at =
      subst (IsElsewhere stops) (sym (thread_in-by (with_budget b) u.threads t))
      (given_one (thread_at u t) at)
    where
      given_one : (o : Option Thread) → IsElsewhere stops o
          → IsElsewhere stops (option_map (with_budget b) o)
      given_one None h = h
      given_one (Some x) h = h

  pub steps_freely : (stops : List ℕ) (count : ℕ) (u ran : World) (b c : ℕ) (x : Thread)
      → thread_at u t ≡ Some x → b ≡ count + c → after_steps count u t ≡ Some ran
      → StartsElsewhere stops count u t → StepsOn stops [] count (given b u) t (given c ran)
  steps_freely stops zero u ran b c x is sum h at =
      let same : ran ≡ u = cc in
      let all : c ≡ b = omega (arith, sum) in
      ap₂ (λ n v. given n v) all same
  steps_freely stops (suc count) u ran b c x is sum h at =
      by_step (λ next y there. steps_freely stops count next ran (b - 1) c y there
      (omega (arith, sum)))
      (step u t) refl h
    where
      begin_later : (next : World) → step u t ≡ Ok next → StartsElsewhere stops count next t
      begin_later next steps = λ made v less is.
          at (suc made) v (omega (arith, less)) (ap (λ r. elim r as (λ _. Option World) [
            | Ok next ↦ after_steps made next t
            | Err reason ↦ None
          ]) steps ∙ is)

      by_step : ((next : World) (y : Thread) → thread_at next t ≡ Some y
          → after_steps count next t ≡ Some ran → StartsElsewhere stops count next t
          → StepsOn stops [] count (given (b - 1) next) t (given c ran))
          → (r : Result World Reason) → step u t ≡ r
          → (elim r as (λ _. Option World) [
            | Ok next ↦ after_steps count next t
            | Err reason ↦ None
          ]) ≡ Some ran
          → StepsOn stops [] (suc count) (given b u) t (given c ran)
      by_step others (Ok next) steps k =
          let form = step-form u next t steps in (
            elsewhere_given stops u b (at 0 u (omega arith) refl),
            (
              given (b - 1) next,
              step_given u next b x is steps,
              none-keeps (given b u) (given (b - 1) next),
              others next (paid_by form.registers x)
                  (ap (λ (v : World). thread_at v t) form.is
                  ∙ thread_in-by (paid_by form.registers) u.threads t
                  ∙ ap (option_map (paid_by form.registers)) is) k (begin_later next steps),
            ),
          )
      by_step others (Err reason) steps k = cc

-- ---- who lives, lives on

pub steps-live : (stops kept : List ℕ) (count : ℕ) (w last : World) (t : ℕ)
    → StepsOn stops kept count w t last → (u : ℕ)
    → IsLiveThread w.threads u → IsLiveThread last.threads u
steps-live stops kept zero w last t steps u live =
    subst (λ (v : World). IsLiveThread v.threads u) (sym steps) live
steps-live stops kept (suc count) w last t steps u live =
    let next = steps.1.0 in
    let form = step-form w next t steps.1.1 in
    steps-live stops kept count next last t steps.1.3 u
    (subst (λ (v : World). IsLiveThread v.threads u) (sym form.is)
    (lives_by (paid_by form.registers) w.threads t u live))

-- ---- instructions of a state

module _ (stops : List ℕ) (s : State) (t b part : ℕ) (table : Tables) (thread : Thread)
    (is : thread_in s.table.threads t ≡ Some thread) (own : b ≡ thread.budget)
    (set : table ≡ thread_by (with_budget part) s.table t) (ran : State) (reason : Option Reason)
    (run : RanUpTo stops (record s { table = table }) t ran reason) where
  abbrev lowered : State
  lowered = record s { table = table }

  lowered-is : (q : ℕ) (o e : List ℕ)
      → sent o e (world_of q lowered)
      ≡ with_thread (sent o e (world_of q s)) t (with_budget part)
  lowered-is q o e = ap (λ (T : Tables). sent o e (world_of q (record s { table = T }))) set

  thread-there : thread_in table.threads t ≡ Some (with_budget part thread)
  thread-there =
      ap (λ (T : Tables). thread_in T.threads t) set
      ∙ thread_in-by (with_budget part) s.table.threads t ∙ ap (option_map (with_budget part)) is

  raised : (q : ℕ) (o e : List ℕ)
      → with_thread (sent o e (world_of q lowered)) t (with_budget b) ≡ sent o e (world_of q s)
  raised q o e =
      ap (λ (w : World). with_thread w t (with_budget b)) (lowered-is q o e)
      ∙ budget-back (sent o e (world_of q s)) t part b thread is own

  part_there : budget_in lowered t ≡ part
  part_there = ap (λ o. elim o as (λ _. ℕ) [ None ↦ 0 | Some x ↦ x.budget ]) thread-there

  -- how many there are
  pub part-paid : part ≡ run.count + budget_in ran t
  part-paid = sym part_there ∙ run.paid

  -- one at least, where the next doesn't stop and begins elsewhere
  pub some_ran : 0 < part → IsElsewhere stops (thread_in s.table.threads t)
      → ((q : ℕ) (o e : List ℕ) → reason_of (step (sent o e (world_of q s)) t) ≡ None)
      → 0 < run.count
  some_ran some at goes_on = by_count run.count reason part-paid (run.runs 0 [] []) run.stops
    where
      not_refused : (why : Reason)
          → step (sent [] [] (world_of 0 lowered)) t ≡ Err why → ⊥
      not_refused why stopped =
          let w : World = sent [] [] (world_of 0 s) in
          let refused : ◌≡◌ {A = Result World Reason} (Err why) (step w t) =
          sym (ap (behind (λ v. with_thread v t (with_budget (thread.budget - 1))))
          (ap (λ v. step v t) (sym (lowered-is 0 [] [])) ∙ stopped))
          ∙ step-same w t part (thread.budget - 1) thread is refl in
          let none : ◌≡◌ {A = Option Reason} (Some why) None =
          ap reason_of refused ∙ goes_on 0 [] [] in
          cc

      by_count : (count : ℕ) (why : Option Reason) → part ≡ count + budget_in ran t
          → after_steps count (sent [] [] (world_of 0 lowered)) t
          ≡ Some (sent [] [] (world_of 0 ran))
          → MatchOption why ((budget_in ran t ≡ 0) ⊎ IsAtOneOf stops ran t)
          (λ r. (0 < budget_in ran t)
          × ((q : ℕ) (o e : List ℕ) → step (sent o e (world_of q ran)) t ≡ Err r))
          → 0 < count
      by_count zero None paid steps (inl none) = absurd (omega (arith, some, paid, none))
      by_count zero None paid steps (inr there) =
          let same : sent [] [] (world_of 0 lowered) ≡ sent [] [] (world_of 0 ran) = cc in
          absurd (true≢false (sym
          (subst (λ o. MatchOption o ⊥
          (λ (x : Thread). is_stop_at stops x.registers.pc ≡ true))
          (ap (λ (v : World). thread_at v t) (sym same) ∙ thread-there) there)
          ∙ subst (IsElsewhere stops) is at))
      by_count zero (Some r) paid steps stopped =
          let same : sent [] [] (world_of 0 lowered) ≡ sent [] [] (world_of 0 ran) = cc in
          absurd (not_refused r (ap (λ v. step v t) same ∙ stopped.1 0 [] []))
      by_count (suc count) why paid steps stopped = omega arith

  module _ (count c : ℕ) (last : Tables) (all : count ≡ run.count) (left : b ≡ count + c)
      (set_back : last ≡ thread_by (with_budget c) ran.table t) where
    abbrev behind-them : State
    behind-them = record ran { table = last }

    pub steps_so : (q : ℕ) (o e : List ℕ)
        → StepsOn stops [] count (sent o e (world_of q s)) t (sent o e (world_of q behind-them))
    steps_so q o e =
        subst (λ v. StepsOn stops [] count v t (sent o e (world_of q behind-them))) (raised q o e)
        (subst (λ (T : Tables). StepsOn stops [] count
        (with_thread (sent o e (world_of q lowered)) t (with_budget b)) t
        (sent o e (world_of q (record ran { table = T })))) (sym set_back)
        (steps_freely t stops count (sent o e (world_of q lowered)) (sent o e (world_of q ran)) b c
        (with_budget part thread) thread-there left
        (ap (λ n. after_steps n (sent o e (world_of q lowered)) t) all ∙ run.runs q o e)
        (subst (λ n. StartsElsewhere stops n (sent o e (world_of q lowered)) t) (sym all)
        (run.elsewhere q o e))))

    module _ (live : IsLiveThread ran.table.threads t) where
      pub budget-behind : budget_in behind-them t ≡ c
      budget-behind =
          let found = some_of (thread_in ran.table.threads t) live in
          ap (λ (T : Tables). budget_in (record ran { table = T }) t) set_back
          ∙ ap (λ o. elim o as (λ _. ℕ) [ None ↦ 0 | Some x ↦ x.budget ])
          (thread_in-by (with_budget c) ran.table.threads t
          ∙ ap (option_map (with_budget c)) found.1)

-- none are nothing
pub stands-still : (stops kept : List ℕ) (count : ℕ) (w last : World) (t : ℕ)
    → StepsOn stops kept count w t last → count ≡ 0 → last ≡ w
stands-still stops kept count w last t steps none =
    subst (λ n. StepsOn stops kept n w t last) none steps
