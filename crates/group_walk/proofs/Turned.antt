-- A turn of the serial phase, by why its instruction stops.
use Rattle.std.proofs.Common.{ℕ, zero, suc, ◌+◌, ◌<◌, ◌≡◌, refl, sym, ap, ◌∙◌, Bool}
use Rattle.std.proofs.Common.{true, false, eqb, Option, Some, None, Result, Ok, Err, arith}
use Rattle.std.specs.Prelude.{IfSome, is_none, is_some, is_err, ◌||◌}
use Rattle.std.proofs.lemmas.Bool.{ne_eqb, true≢false}
use Rattle.dos_world.specs.World.{World, Thread, thread_at}
use Rattle.dos_world.specs.Play.{done, ◌>>=◌}
use Rattle.dos_world.specs.Kernel.{process_ended}
use Rattle.dos_world.specs.Services.{service}
use Rattle.dos_world.specs.declared.Access.{Access}
use Rattle.dos_world.specs.declared.Reason.{Reason}
use Rattle.dos_world.specs.declared.Reason.TheVariants.{Page, Fault, Service}
use Rattle.flat_machine.specs.Alone.{budget_of}
use Rattle.flat_machine.specs.Step.{step}
use Rattle.flat_machine.specs.Rest.{on, over_with, settled, page_granted, turn, after_step}
use Rattle.flat_machine.specs.Rest.{process_of, service_done}
use Rattle.group_moves.specs.Places.{is_part_over, is_rest_over}
use Rattle.group_walk.specs.Needs.{reason_of}

-- ---- steps by their refusals

pub stopped_so : (r : Result World Reason) (reason : Reason) → reason_of r ≡ Some reason
    → r ≡ Err reason
stopped_so (Ok next) reason h = cc
stopped_so (Err other) reason h = let same : other ≡ reason = cc in ap Err same

pub stops_by : (w : World) (t : ℕ) (reason : Reason) → reason_of (step w t) ≡ Some reason
    → step w t ≡ Err reason
stops_by w t reason h = stopped_so (step w t) reason h

-- ---- pages granted one after another

abbrev settled_on : ℕ → World → ℕ → Result World Reason → World × Result World Reason
settled_on n w t (Ok next) = (w, Ok next)
settled_on n w t (Err (Page address access)) = settled n (page_granted w t address access) t
settled_on n w t (Err (Fault number)) = (w, Err (Fault number))
settled_on n w t (Err Service) = (w, Err Service)

module _ (w : World) (t : ℕ) where
  pub settled_done : (n : ℕ) → reason_of (step w t) ≡ None → settled n w t ≡ (w, step w t)
  settled_done zero h = refl
  settled_done (suc n) h = go (step w t) h
    where
      go : (r : Result World Reason) → reason_of r ≡ None → settled_on n w t r ≡ (w, r)
      go (Ok next) e = refl
      go (Err reason) e = cc

  pub settled_fault : (n number : ℕ) → reason_of (step w t) ≡ Some (Fault number)
      → settled n w t ≡ (w, step w t)
  settled_fault zero number h = refl
  settled_fault (suc n) number h = let is = stops_by w t (Fault number) h in
      ap (settled_on n w t) is ∙ ap (λ r. (w, r)) (sym is)

  pub settled_service : (n : ℕ) → reason_of (step w t) ≡ Some Service
      → settled n w t ≡ (w, step w t)
  settled_service zero h = refl
  settled_service (suc n) h = let is = stops_by w t Service h in
      ap (settled_on n w t) is ∙ ap (λ r. (w, r)) (sym is)

  pub settled_grant : (n left address : ℕ) (access : Access) → left ≡ suc n
      → reason_of (step w t) ≡ Some (Page address access)
      → settled left w t ≡ settled n (page_granted w t address access) t
  settled_grant n left address access is h =
      ap (λ m. settled m w t) is
      ∙ ap (settled_on n w t) (stops_by w t (Page address access) h)

  pub settled_out : (left : ℕ) → left ≡ 0 → settled left w t ≡ (w, step w t)
  settled_out left none = ap (λ m. settled m w t) none

-- ---- a turn from a world on whose pages were granted

module _ (w v : World) (t : ℕ) (settles : settled 3 w t ≡ (v, step v t)) where
  turned : (r : Result World Reason) → step v t ≡ r → turn w t ≡ after_step t v r
  turned r is =
      ap (λ (s : World × Result World Reason). after_step t s.0 s.1) (settles ∙ ap (λ x. (v, x)) is)

  pub turn_steps : (next : World) → step v t ≡ Ok next → turn w t ≡ done (on next)
  turn_steps next is = turned (Ok next) is

  pub turn_stops : (address : ℕ) (access : Access)
      → reason_of (step v t) ≡ Some (Page address access) → turn w t ≡ done (over_with v)
  turn_stops address access h =
      turned (Err (Page address access)) (stops_by v t (Page address access) h)

  pub turn_faults : (number : ℕ) → reason_of (step v t) ≡ Some (Fault number)
      → turn w t ≡ done (over_with (process_ended v (process_of v t) (128 + number)))
  turn_faults number h = turned (Err (Fault number)) (stops_by v t (Fault number) h)

  pub turn_serves : reason_of (step v t) ≡ Some Service
      → turn w t ≡ (service v t >>= service_done)
  turn_serves h = turned (Err Service) (stops_by v t Service h)

-- ---- whether a part is over

or_true : (b : Bool) → (b || true) ≡ true
or_true true = refl
or_true false = refl

module _ (w : World) (t : ℕ) where
  pub rest_over_gone : false ≡ is_some (thread_at w t) → is_rest_over w t ≡ true
  rest_over_gone gone = go (thread_at w t) gone
    where
      go : (o : Option Thread) → false ≡ is_some o
          → (is_none o || eqb (elim o as (λ _. ℕ) [ None ↦ 0 | Some x ↦ x.budget ]) 0) ≡ true
      go None h = refl
      go (Some x) h = cc

  pub rest_over_live : (n : ℕ) → true ≡ is_some (thread_at w t)
      → IfSome (thread_at w t) (λ thread. n ≡ thread.budget) → is_rest_over w t ≡ eqb n 0
  rest_over_live n live budget = go (thread_at w t) live budget
    where
      go : (o : Option Thread) → true ≡ is_some o → IfSome o (λ thread. n ≡ thread.budget)
          → (is_none o || eqb (elim o as (λ _. ℕ) [ None ↦ 0 | Some x ↦ x.budget ]) 0) ≡ eqb n 0
      go None h k = cc
      go (Some x) h k = ap (λ m. eqb m 0) (sym k)

  pub part_over_spent : budget_of w t ≡ 0 → is_part_over w t ≡ true
  part_over_spent none = ap (λ n. eqb n 0 || is_err (step w t)) none

  pub part_over_stopped : (reason : Reason) → reason_of (step w t) ≡ Some reason
      → is_part_over w t ≡ true
  part_over_stopped reason h =
      ap (λ r. eqb (budget_of w t) 0 || is_err r)
      (stops_by w t reason h) ∙ or_true (eqb (budget_of w t) 0)

  pub part_goes_on : (budget_of w t ≡ 0 → ⊥) → reason_of (step w t) ≡ None
      → is_part_over w t ≡ false
  part_goes_on some h =
      ap (λ b. b || is_err (step w t)) (ne_eqb (budget_of w t) 0 some) ∙ go (step w t) h
    where
      go : (r : Result World Reason) → reason_of r ≡ None → is_err r ≡ false
      go (Ok next) e = refl
      go (Err reason) e = cc

  -- what is so where it isn't
  pub part_on : is_part_over w t ≡ false
      → (0 < budget_of w t) × (reason_of (step w t) ≡ None)
  part_on h = go (budget_of w t) (step w t) h
    where
      go : (n : ℕ) (r : Result World Reason) → (eqb n 0 || is_err r) ≡ false
          → (0 < n) × (reason_of r ≡ None)
      go zero r e = absurd (true≢false e)
      go (suc n) (Ok next) e = (omega arith, refl)
      go (suc n) (Err reason) e = absurd (true≢false (sym (or_true (eqb (suc n) 0)) ∙ e))

  pub rest_on : is_rest_over w t ≡ false → 0 < budget_of w t
  rest_on h = go (is_none (thread_at w t)) (budget_of w t) h
    where
      go : (b : Bool) (n : ℕ) → (b || eqb n 0) ≡ false → 0 < n
      go true n e = absurd (true≢false e)
      go false zero e = absurd (true≢false e)
      go false (suc n) e = omega arith
