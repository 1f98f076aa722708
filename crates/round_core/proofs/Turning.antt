-- What a turn and the turns after it come to, by what a step of the thread gives.
use Rattle.std.proofs.Common.{ℕ, zero, suc, ◌+◌, ◌≤◌, ◌≡◌, refl, sym, ap, ◌∙◌, subst, Option, Some}
use Rattle.std.proofs.Common.{None, Result, Ok, Err, arith}
use Rattle.dos_world.specs.World.{World}
use Rattle.dos_world.specs.Kernel.{process_ended}
use Rattle.dos_world.specs.Services.{service}
use Rattle.dos_world.specs.Play.{Play, done, ◌>>=◌}
use Rattle.dos_world.proofs.PlayLaws.{then_assoc}
use Rattle.dos_world.specs.declared.Access.{Access}
use Rattle.dos_world.specs.declared.Reason.{Reason}
use Rattle.dos_world.specs.declared.Reason.TheVariants.{Page, Fault, Service}
use Rattle.flat_machine.specs.Step.{step}
use Rattle.flat_machine.specs.Laws.{after_steps}
use Rattle.round_core.specs.Laws.{MapsWithin, IsNoPage}
use Rattle.flat_machine.specs.Rest.{settled, page_granted, Turn, on, over_with, after_step}
use Rattle.flat_machine.specs.Rest.{after_service, service_done, process_of, turn, turns}
use Rattle.round_core.specs.Granting.{grants_needed}
use Rattle.round_core.proofs.Grants.{three-are-enough}

-- what follows a turn, with so many turns left
abbrev pub goes_on : ℕ → ℕ → Turn → Play World
goes_on n t (on next) = turns n next t
goes_on n t (over_with last) = done last

option_some : {A : Type 0} {x y : A} → ◌≡◌ {A = Option A} (Some x) (Some y) → x ≡ y
option_some e = cc

-- what settled gives by what a step gives, where n grants are left
abbrev settled_by : ℕ → World → ℕ → Result World Reason → World × Result World Reason
settled_by n w t (Ok next) = (w, Ok next)
settled_by n w t (Err (Page address access)) = settled n (page_granted w t address access) t
settled_by n w t (Err (Fault number)) = (w, Err (Fault number))
settled_by n w t (Err Service) = (w, Err Service)

settled-by : (n : ℕ) (w : World) (t : ℕ) (r : Result World Reason) → step w t ≡ r
    → settled (suc n) w t ≡ settled_by n w t r
settled-by n w t r e = ap (settled_by n w t) e

-- ---- a stop at a page

-- where n grants are enough, one more changes nothing
settled_more : (n : ℕ) (w : World) (t : ℕ) → IsNoPage (settled n w t).1
    → settled (suc n) w t ≡ settled n w t
settled_more zero w t enough = go (step w t) refl
  where
    go : (r : Result World Reason) → step w t ≡ r → settled 1 w t ≡ (w, step w t)
    go (Ok next) e = settled-by 0 w t (Ok next) e ∙ ap (λ r. (w, r)) (sym e)
    go (Err (Page address access)) e = absurd (enough address access e)
    go (Err (Fault number)) e = settled-by 0 w t (Err (Fault number)) e ∙ ap (λ r. (w, r)) (sym e)
    go (Err Service) e = settled-by 0 w t (Err Service) e ∙ ap (λ r. (w, r)) (sym e)
settled_more (suc n) w t enough = go (λ next. settled_more n next t) (step w t) refl
  where
    go : ((next : World) → IsNoPage (settled n next t).1
        → settled (suc n) next t ≡ settled n next t)
        → (r : Result World Reason) → step w t ≡ r → settled (suc (suc n)) w t ≡ settled (suc n) w t
    go rest (Ok next) e = settled-by (suc n) w t (Ok next) e ∙ sym (settled-by n w t (Ok next) e)
    go rest (Err (Page address access)) e =
        let later : IsNoPage (settled n (page_granted w t address access) t).1 =
        subst (λ (s : World × Result World Reason). IsNoPage s.1)
        (settled-by n w t (Err (Page address access)) e) enough in
        settled-by (suc n) w t (Err (Page address access)) e
        ∙ rest (page_granted w t address access) later
        ∙ sym (settled-by n w t (Err (Page address access)) e)
    go rest (Err (Fault number)) e =
        settled-by (suc n) w t (Err (Fault number)) e
        ∙ sym (settled-by n w t (Err (Fault number)) e)
    go rest (Err Service) e =
        settled-by (suc n) w t (Err Service) e ∙ sym (settled-by n w t (Err Service) e)

module _ (w : World) (t : ℕ) (address : ℕ) (access : Access) where
  -- after the grant of a page two more are enough
  two_more : MapsWithin w t → step w t ≡ Err (Page address access)
      → IsNoPage (settled 2 (page_granted w t address access) t).1
  two_more within stop =
      subst (λ (s : World × Result World Reason). IsNoPage s.1)
      (settled-by 2 w t (Err (Page address access)) stop) (three-are-enough w t within)

  settled-granted : MapsWithin w t → step w t ≡ Err (Page address access)
      → settled 3 w t ≡ settled 3 (page_granted w t address access) t
  settled-granted within stop =
      settled-by 2 w t (Err (Page address access)) stop
      ∙ sym (settled_more 2 (page_granted w t address access) t (two_more within stop))

  -- Where a step stops at a page, the turn is the one after its grant.
  pub turn-granted : MapsWithin w t → step w t ≡ Err (Page address access)
      → turn w t ≡ turn (page_granted w t address access) t
  turn-granted within stop =
      ap (λ (s : World × Result World Reason). after_step t s.0 s.1) (settled-granted within stop)

  pub turns-granted : (n : ℕ) → MapsWithin w t → step w t ≡ Err (Page address access)
      → turns (suc n) w t ≡ turns (suc n) (page_granted w t address access) t
  turns-granted n within stop = ap (λ play. play >>= goes_on n t) (turn-granted within stop)

-- ---- other steps

module _ (w : World) (t : ℕ) where
  turn-by : (r : Result World Reason) → settled 3 w t ≡ (w, r) → turn w t ≡ after_step t w r
  turn-by r e = ap (λ (s : World × Result World Reason). after_step t s.0 s.1) e

  turn-ok : (next : World) → step w t ≡ Ok next → turn w t ≡ done (on next)
  turn-ok next e = turn-by (Ok next) (settled-by 2 w t (Ok next) e)

  pub turns-ok : (n : ℕ) (next : World) → step w t ≡ Ok next → turns (suc n) w t ≡ turns n next t
  turns-ok n next e = ap (λ play. play >>= goes_on n t) (turn-ok next e)

  -- A fault ends the part, with the process.
  pub turns-fault : (n number : ℕ) → step w t ≡ Err (Fault number)
      → turns (suc n) w t ≡ done (process_ended w (process_of w t) (128 + number))
  turns-fault n number e =
      ap (λ play. play >>= goes_on n t)
      (turn-by (Err (Fault number)) (settled-by 2 w t (Err (Fault number)) e))

  -- An ecall is served, and how that leaves the thread decides.
  pub turns-service : (n : ℕ) → step w t ≡ Err Service
      → turns (suc n) w t ≡ (service w t >>= λ served. goes_on n t (after_service served))
  turns-service n e =
      ap (λ play. play >>= goes_on n t) (turn-by (Err Service) (settled-by 2 w t (Err Service) e))
      ∙ then_assoc (service w t) service_done (goes_on n t)

-- instructions that all step
pub turns-after_steps : (k n : ℕ) (w w' : World) (t : ℕ) → after_steps k w t ≡ Some w'
    → turns (k + n) w t ≡ turns n w' t
turns-after_steps zero n w w' t e =
    let same : w ≡ w' = option_some e in
    ap (λ m. turns m w t) (let z : 0 + n ≡ n = omega arith in z) ∙ ap (λ v. turns n v t) same
turns-after_steps (suc k) n w w' t e =
    ap (λ m. turns m w t) (let z : suc k + n ≡ suc (k + n) = omega arith in z)
    ∙ go (λ next. turns-after_steps k n next w' t) (step w t) refl e
  where
    go : ((next : World) → after_steps k next t ≡ Some w' → turns (k + n) next t ≡ turns n w' t)
        → (r : Result World Reason) → step w t ≡ r
        → (elim r as (λ _. Option World) [ Ok next ↦ after_steps k next t | Err reason ↦ None ])
        ≡ Some w'
        → turns (suc (k + n)) w t ≡ turns n w' t
    go rest (Ok next) is h = turns-ok w t (k + n) next is ∙ rest next h
    go rest (Err reason) is h = absurd (none≢some h)
      where
        none≢some : ◌≡◌ {A = Option World} None (Some w') → ⊥
        none≢some x = cc

-- ---- how many grants an instruction needs, at most so many counted

pub few_grants : (n : ℕ) (w : World) (t : ℕ) → grants_needed n w t ≤ n
few_grants zero w t = omega arith
few_grants (suc n) w t = go (λ next. few_grants n next t) (step w t)
  where
    go : ((next : World) → grants_needed n next t ≤ n) → (r : Result World Reason)
        → (elim r as (λ _. ℕ) [
          | Ok next ↦ 0
          | Err reason ↦
              elim reason as (λ _. ℕ) [
                | Page address access ↦
                    suc (grants_needed n (page_granted w t address access) t)
                | Fault number ↦ 0
                | Service ↦ 0
              ]
        ]) ≤ suc n
    go rest (Ok next) = omega arith
    go rest (Err (Page address access)) =
        let h = rest (page_granted w t address access) in omega (arith, h)
    go rest (Err (Fault number)) = omega arith
    go rest (Err Service) = omega arith

abbrev needed_by : ℕ → World → ℕ → Result World Reason → ℕ
needed_by n w t (Ok next) = 0
needed_by n w t (Err (Page address access)) =
    suc (grants_needed n (page_granted w t address access) t)
needed_by n w t (Err (Fault number)) = 0
needed_by n w t (Err Service) = 0

needed-by : (n : ℕ) (w : World) (t : ℕ) (r : Result World Reason) → step w t ≡ r
    → grants_needed (suc n) w t ≡ needed_by n w t r
needed-by n w t r e = ap (needed_by n w t) e

-- where n grants are enough, none more is counted
needed_more : (n : ℕ) (w : World) (t : ℕ) → IsNoPage (settled n w t).1
    → grants_needed (suc n) w t ≡ grants_needed n w t
needed_more zero w t enough = go (step w t) refl
  where
    go : (r : Result World Reason) → step w t ≡ r → grants_needed 1 w t ≡ 0
    go (Ok next) e = needed-by 0 w t (Ok next) e
    go (Err (Page address access)) e = absurd (enough address access e)
    go (Err (Fault number)) e = needed-by 0 w t (Err (Fault number)) e
    go (Err Service) e = needed-by 0 w t (Err Service) e
needed_more (suc n) w t enough = go (λ next. needed_more n next t) (step w t) refl
  where
    go : ((next : World) → IsNoPage (settled n next t).1
        → grants_needed (suc n) next t ≡ grants_needed n next t)
        → (r : Result World Reason) → step w t ≡ r
        → grants_needed (suc (suc n)) w t ≡ grants_needed (suc n) w t
    go rest (Ok next) e = needed-by (suc n) w t (Ok next) e ∙ sym (needed-by n w t (Ok next) e)
    go rest (Err (Page address access)) e =
        let later : IsNoPage (settled n (page_granted w t address access) t).1 =
        subst (λ (s : World × Result World Reason). IsNoPage s.1)
        (settled-by n w t (Err (Page address access)) e) enough in
        needed-by (suc n) w t (Err (Page address access)) e
        ∙ ap suc (rest (page_granted w t address access) later)
        ∙ sym (needed-by n w t (Err (Page address access)) e)
    go rest (Err (Fault number)) e =
        needed-by (suc n) w t (Err (Fault number)) e ∙ sym (needed-by n w t (Err (Fault number)) e)
    go rest (Err Service) e =
        needed-by (suc n) w t (Err Service) e ∙ sym (needed-by n w t (Err Service) e)

-- a grant is one less that is needed
pub needed-granted : (w : World) (t address : ℕ) (access : Access) → MapsWithin w t
    → step w t ≡ Err (Page address access)
    → grants_needed 3 w t ≡ suc (grants_needed 3 (page_granted w t address access) t)
needed-granted w t address access within stop =
    needed-by 2 w t (Err (Page address access)) stop
    ∙ ap suc
    (sym
    (needed_more 2 (page_granted w t address access) t (two_more w t address access within stop)))
