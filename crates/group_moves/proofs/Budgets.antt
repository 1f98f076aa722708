-- Each move in a part costs its thread one of its budget.
use Rattle.std.proofs.Common.{ℕ, zero, suc, ◌-◌, ◌≡◌, refl, ap, ◌∙◌, List, [], ◌∷◌}
use Rattle.std.proofs.Common.{◌++◌, Option, Some, None, Result, Ok, Err, option_map, arith}
use Rattle.std.specs.Prelude.{⊤, slice_get}
use Rattle.dos_world.specs.Numbered.{numbered, changed, changed_at}
use Rattle.dos_world.specs.World.{World, Thread, flat, thread_at, entry_at, released, registers_by}
use Rattle.dos_world.specs.World.{get}
use Rattle.dos_world.specs.Play.{Play, Answer, done, ask, ◌>>=◌, gives, over}
use Rattle.dos_world.specs.Services.{Served, went, waits, yields, gone, service, service_for}
use Rattle.dos_world.specs.Services.{charged, call_of}
use Rattle.dos_world.specs.declared.Access.{Access}
use Rattle.dos_world.specs.declared.Entry.{Entry}
use Rattle.dos_world.specs.declared.Reason.{Reason}
use Rattle.dos_world.specs.declared.Reason.TheVariants.{Page, Fault, Service}
use Rattle.dos_world.proofs.Numbers.{changed_there}
use Rattle.flat_machine.specs.Step.{step, paid_by}
use Rattle.flat_machine.specs.Alone.{budget_of, emptied}
use Rattle.flat_machine.specs.Rest.{Turn, on, over_with, settled, page_granted, granted_by, turn}
use Rattle.flat_machine.specs.Rest.{after_step, service_done}
use Rattle.flat_machine.proofs.Threads.{seen-changed}
use Rattle.flat_machine.proofs.Stays.{step-form}
use Rattle.group_moves.specs.Laws.{HasLeft}
use Rattle.round_core.specs.Protocol.{any_protocol, Allows}
use Rattle.round_core.proofs.Allowed.{over_allows}
use Rattle.round_core.proofs.Services.{Said, Stands, service_left}

-- ---- the budget of a thread that lives

abbrev budget_seen : Option Thread → Option ℕ
budget_seen o = option_map (λ (x : Thread). x.budget) o

abbrev budget_in : Option Thread → ℕ
budget_in o = elim o as (λ _. ℕ) [ None ↦ 0 | Some thread ↦ thread.budget ]

pub budget_is : (w : World) (t b : ℕ) → HasLeft w t b → budget_of w t ≡ b
budget_is w t b h = by_thread (thread_at w t) h
  where
    by_thread : (o : Option Thread) → budget_seen o ≡ Some b → budget_in o ≡ b
    by_thread None h = cc
    by_thread (Some x) h = cc

pub has_left : (w : World) (t b : ℕ) → budget_of w t ≡ suc b → HasLeft w t (suc b)
has_left w t b h = by_thread (thread_at w t) h
  where
    by_thread : (o : Option Thread) → budget_in o ≡ suc b → budget_seen o ≡ Some (suc b)
    by_thread None h = absurd (omega (arith, h))
    by_thread (Some x) h = ap Some h

less_one : (o : Option Thread) (b : ℕ) → budget_seen o ≡ Some (suc b)
    → option_map (λ (x : Thread). x.budget - 1) o ≡ Some b
less_one None b h = cc
less_one (Some x) b h = let e : x.budget ≡ suc b = cc in ap Some (omega (arith, e))

-- a part begins with no reservation, and with its budget
pub emptied_keeps : (w : World) (t : ℕ) → budget_of (emptied w t) t ≡ budget_of w t
emptied_keeps w t =
    ap budget_in (changed_there (registers_by released) w.threads t) ∙ by_thread (thread_at w t)
  where
    by_thread : (o : Option Thread)
        → budget_in (option_map (registers_by released) o) ≡ budget_in o
    by_thread None = refl
    by_thread (Some x) = refl

-- ---- an instruction

pub step_costs : (w next : World) (t b : ℕ) → step w t ≡ Ok next → HasLeft w t (suc b)
    → HasLeft next t b
step_costs w next t b is h =
    let form = step-form w next t is in
    ap (λ (u : World). budget_seen (thread_at u t)) form.is
    ∙ seen-changed (λ (x : Thread). x.budget) (paid_by form.registers) w.threads t
    ∙ less_one (thread_at w t) b h

-- ---- a service

module _ (t b : ℕ) where
  -- t has this budget among these threads
  abbrev OfThreads : Said
  OfThreads threads owners quantum rounds output error =
      budget_seen (flat (numbered threads t)) ≡ Some b

  changed_keeps : (f : Thread → Thread) → ((x : Thread) → (f x).budget ≡ x.budget)
      → (xs : List (Option Thread)) (u s : ℕ)
      → budget_seen (flat (numbered (changed (option_map f) xs u) s))
      ≡ budget_seen (flat (numbered xs s))
  changed_keeps f same xs zero s = refl
  changed_keeps f same xs (suc i) zero = refl
  changed_keeps f same xs (suc i) (suc j) = at xs i j
    where
      at : (xs : List (Option Thread)) (i j : ℕ)
          → budget_seen (flat (slice_get (changed_at (option_map f) xs i) j))
          ≡ budget_seen (flat (slice_get xs j))
      at [] i j = refl
      at (None ∷ xs) zero zero = refl
      at (Some x ∷ xs) zero zero = ap Some (same x)
      at (x ∷ xs) zero (suc j) = refl
      at (x ∷ xs) (suc i) zero = refl
      at (x ∷ xs) (suc i) (suc j) = at xs i j

  appended_keeps : (xs more : List (Option Thread)) (s : ℕ)
      → budget_seen (flat (numbered xs s)) ≡ Some b
      → budget_seen (flat (numbered (xs ++ more) s)) ≡ Some b
  appended_keeps xs more zero h = h
  appended_keeps xs more (suc i) h = at xs i h
    where
      at : (xs : List (Option Thread)) (i : ℕ) → budget_seen (flat (slice_get xs i)) ≡ Some b
          → budget_seen (flat (slice_get (xs ++ more) i)) ≡ Some b
      at [] i h = cc
      at (x ∷ xs) zero h = h
      at (x ∷ xs) (suc i) h = at xs i h

  stands : Stands OfThreads
  stands = record {
    thread = λ f same w u k. changed_keeps f same w.threads u t ∙ k;
    new_thread = λ w thread k. appended_keeps w.threads (Some thread ∷ []) t k;
    owners = λ w owners count k. k;
    output = λ w bytes k. k;
    error = λ w bytes k. k;
  }

  abbrev AfterService : Served → Type 0
  AfterService (went w) = HasLeft w t b
  AfterService (waits w) = ⊤
  AfterService (yields w) = ⊤
  AfterService (gone w) = ⊤

  service_costs : (w : World) → HasLeft w t (suc b)
      → Allows any_protocol AfterService (service w t)
  service_costs w h = by_thread (thread_at w t)
    where
      paid : budget_seen (flat (numbered (changed (option_map charged) w.threads t) t)) ≡ Some b
      paid =
          seen-changed (λ (x : Thread). x.budget) charged w.threads t
          ∙ less_one (thread_at w t) b h

      by_thread : (o : Option Thread) → Allows any_protocol AfterService (service_for w t o)
      by_thread None = tt
      by_thread (Some thread) =
          service_left OfThreads stands any_protocol AfterService
          (record { going = λ v k. k; waiting = λ v k. tt; yielding = λ v k. tt })
          (call_of w t thread) paid (λ n. ⊤) (λ called most. tt) (λ called. tt) tt tt
          (get thread.registers 17) tt

  -- ---- a turn

  abbrev AfterTurn : Turn → Type 0
  AfterTurn (on w) = HasLeft w t b
  AfterTurn (over_with w) = ⊤

  served_then : (p : Play Served) → Allows any_protocol AfterService p
      → Allows any_protocol AfterTurn (p >>= service_done)
  served_then (done (went w)) h = h
  served_then (done (waits w)) h = tt
  served_then (done (yields w)) h = tt
  served_then (done (gone w)) h = tt
  served_then (ask question output error next) h =
      (tt, λ answer is. served_then (next answer) (h.1 answer is))

  step_then : (w : World) (r : Result World Reason) → step w t ≡ r → HasLeft w t (suc b)
      → Allows any_protocol AfterTurn (after_step t w r)
  step_then w (Ok next) is h = step_costs w next t b is h
  step_then w (Err (Page address access)) is h = tt
  step_then w (Err (Fault number)) is h = tt
  step_then w (Err Service) is h = served_then (service w t) (service_costs w h)

-- grants leave every thread, and the step is that of the world behind them
settled_keeps : (n : ℕ) (w : World) (t : ℕ)
    → (step (settled n w t).0 t ≡ (settled n w t).1)
    × (budget_seen (thread_at (settled n w t).0 t) ≡ budget_seen (thread_at w t))
settled_keeps zero w t = (refl, refl)
settled_keeps (suc n) w t = by_step (λ v. settled_keeps n v t) (step w t) refl
  where
    granted_keeps : (access : Access) (o : Option Entry)
        → budget_seen (thread_at (granted_by w t access o) t) ≡ budget_seen (thread_at w t)
    granted_keeps access None = refl
    granted_keeps access (Some e) = refl

    led : Result World Reason → World × Result World Reason
    led r =
        elim r [
          | Ok next ↦ (w, Ok next)
          | Err reason ↦ elim reason [
            | Page address access ↦ settled n (page_granted w t address access) t
            | Fault number ↦ (w, Err (Fault number))
            | Service ↦ (w, Err Service)
          ]
        ]

    by_step : ((v : World) → (step (settled n v t).0 t ≡ (settled n v t).1)
        × (budget_seen (thread_at (settled n v t).0 t) ≡ budget_seen (thread_at v t)))
        → (r : Result World Reason) → step w t ≡ r
        → (step (led r).0 t ≡ (led r).1)
        × (budget_seen (thread_at (led r).0 t) ≡ budget_seen (thread_at w t))
    by_step again (Ok v) is = (is, refl)
    by_step again (Err (Page address access)) is =
        let k = again (page_granted w t address access) in
        (k.0, k.1 ∙ granted_keeps access (entry_at w t address))
    by_step again (Err (Fault number)) is = (is, refl)
    by_step again (Err Service) is = (is, refl)

pub turn_costs : (w next : World) (t b : ℕ) (answers rest : List Answer) → HasLeft w t (suc b)
    → over answers (turn w t) ≡ gives (on next) rest → HasLeft next t b
turn_costs w next t b answers rest h is =
    let s = settled_keeps 3 w t in
    over_allows any_protocol (AfterTurn t b) answers (turn w t) (on next) rest
    (step_then t b (settled 3 w t).0 (settled 3 w t).1 s.0 (s.1 ∙ h))
    (λ k d lt. tt) is
