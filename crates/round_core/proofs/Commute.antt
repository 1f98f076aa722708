-- Instructions of several threads, in any order that is full, lead to the world of the parallel
-- phase.
use Rattle.std.proofs.Common.{ℕ, zero, suc, ◌+◌, ◌-◌, ◌≤◌, ◌≡◌, ◌≢◌, ◌⊎◌, inl, inr, refl, sym, ap}
use Rattle.std.proofs.Common.{◌∙◌, subst, Bool, cond, true, false, not, eqb, eqb-true, List, []}
use Rattle.std.proofs.Common.{◌∷◌, Option, Some, None, option_map, Result, Ok, Err, arith}
use Rattle.std.specs.Prelude.{fold, is_err, Contains, slice_get, ◌&&◌, ◌==◌, IsTrue}
use Rattle.std.specs.Result.{result_unwrap_or}
use Rattle.dos_world.specs.Numbered.{places_from}
use Rattle.dos_world.specs.World.{World, Thread, Registers, flat, thread_at, is_state}
use Rattle.dos_world.specs.World.{ready_threads, registers_by, released}
use Rattle.dos_world.specs.declared.Reason.{Reason}
use Rattle.dos_world.specs.declared.ThreadState.TheVariants.{Ready}
use Rattle.dos_world.proofs.Numbers.{changed_other, changed_there}
use Rattle.flat_machine.specs.Step.{step, paid_by}
use Rattle.flat_machine.proofs.Stays.{stops-stay, stops-beside}
use Rattle.flat_machine.proofs.Commute.{steps-commute, step-beside, step-others, step-pays}
use Rattle.flat_machine.specs.Alone.{budget_of, emptied, steps}
use Rattle.flat_machine.proofs.After.{steps-ok, steps-stopped}
use Rattle.flat_machine.specs.Mixed.{stepped, mixed, IsFull}
use Rattle.flat_machine.specs.Round.{all_alone, parallel}

-- ---- which numbers stand in a list

abbrev pub Among : List ℕ → ℕ → Type 0
Among [] x = ⊥
Among (y ∷ ys) x = (y ≡ x) ⊎ Among ys x

abbrev pub Apart : List ℕ → Type 0
Apart [] = Unit {0}
Apart (t ∷ ts) = ((s : ℕ) → Among ts s → s ≢ t) × Apart ts

pub among_contains : (xs : List ℕ) (x : ℕ) → Among xs x → Contains xs x
among_contains [] x h = absurd h
among_contains (y ∷ ys) x (inl e) = (0, omega arith, e)
among_contains (y ∷ ys) x (inr h) =
    let c = among_contains ys x h in (suc c.0, omega (arith, c.1), c.2)

-- ---- the ready threads, each once

among_above : (n : ℕ) (test : Option Thread → Bool) (xs : List (Option Thread)) (s : ℕ)
    → Among (places_from n test xs) s → n ≤ s
among_above n test [] s h = absurd h
among_above n test (x ∷ xs) s h = by_test (λ q. among_above (suc n) test xs s q) (test x) h
  where
    by_test : (Among (places_from (suc n) test xs) s → suc n ≤ s) → (b : Bool)
        → Among (cond b (n ∷ places_from (suc n) test xs) (places_from (suc n) test xs)) s → n ≤ s
    by_test rest true (inl e) = omega arith
    by_test rest true (inr q) = let above = rest q in omega arith
    by_test rest false q = let above = rest q in omega arith

pub places-apart : (n : ℕ) (test : Option Thread → Bool) (xs : List (Option Thread))
    → Apart (places_from n test xs)
places-apart n test [] = tt
places-apart n test (x ∷ xs) = by_test (places-apart (suc n) test xs) (test x)
  where
    by_test : Apart (places_from (suc n) test xs) → (b : Bool)
        → Apart (cond b (n ∷ places_from (suc n) test xs) (places_from (suc n) test xs))
    by_test rest true =
        (λ s h e. let above = among_above (suc n) test xs s h in absurd (omega arith), rest)
    by_test rest false = rest

places-among : (n : ℕ) (test : Option Thread → Bool) (xs : List (Option Thread)) (i : ℕ)
    → test None ≡ false → test (flat (slice_get xs i)) ≡ true
    → Among (places_from n test xs) (n + i)
places-among n test [] i none h = absurd (grind (arith, none))
places-among n test (x ∷ xs) zero none h =
    subst
    (λ b. Among (cond b (n ∷ places_from (suc n) test xs) (places_from (suc n) test xs)) (n + 0))
    (sym h) (inl (omega arith))
places-among n test (x ∷ xs) (suc i) none h =
    let same : suc n + i ≡ n + suc i = omega arith in
    by_test
    (subst (Among (places_from (suc n) test xs)) same (places-among (suc n) test xs i none h))
    (test x)
  where
    by_test : Among (places_from (suc n) test xs) (n + suc i) → (b : Bool)
        → Among (cond b (n ∷ places_from (suc n) test xs) (places_from (suc n) test xs)) (n + suc i)
    by_test rest true = inr rest
    by_test rest false = rest

ready-among : (w : World) (t : ℕ) → is_state Ready (thread_at w t) ≡ true
    → Among (ready_threads w) t
ready-among w zero h = absurd (grind arith)
ready-among w (suc i) h =
    let same : 1 + i ≡ suc i = omega arith in
    subst (Among (ready_threads w)) same (places-among 1 (is_state Ready) w.threads i refl h)

places-pass : (n : ℕ) (xs : List (Option Thread)) (s : ℕ)
    → Among (places_from n (is_state Ready) xs) s
    → (i : ℕ) × (s ≡ n + i) × (is_state Ready (flat (slice_get xs i)) ≡ true)
places-pass n [] s h = absurd h
places-pass n (x ∷ xs) s h = by (λ q. places-pass (suc n) xs s q) (is_state Ready x) refl h
  where
    later : (i : ℕ) × (s ≡ suc n + i) × (is_state Ready (flat (slice_get xs i)) ≡ true)
        → (i : ℕ) × (s ≡ n + i) × (is_state Ready (flat (slice_get (x ∷ xs) i)) ≡ true)
    later r = let place : s ≡ n + suc r.0 = omega (arith, r.1) in (suc r.0, place, r.2)

    by : (Among (places_from (suc n) (is_state Ready) xs) s
        → (i : ℕ) × (s ≡ suc n + i) × (is_state Ready (flat (slice_get xs i)) ≡ true))
        → (b : Bool) → is_state Ready x ≡ b
        → Among (cond b (n ∷ places_from (suc n) (is_state Ready) xs)
        (places_from (suc n) (is_state Ready) xs)) s
        → (i : ℕ) × (s ≡ n + i) × (is_state Ready (flat (slice_get (x ∷ xs) i)) ≡ true)
    by rest true e (inl q) = let place : s ≡ n + 0 = omega (arith, q) in (0, place, e)
    by rest true e (inr q) = later (rest q)
    by rest false e q = later (rest q)

pub ready-in : (w : World) (t : ℕ) → Among (ready_threads w) t
    → is_state Ready (thread_at w t) ≡ true
ready-in w t h =
    let found = places-pass 1 w.threads t h in
    let is : t ≡ suc found.0 = omega (arith, found.1) in
    ap (λ n. is_state Ready (thread_at w n)) is ∙ found.2

-- ---- who may step

abbrev pub active_in : Option Thread → Bool
active_in o =
    is_state Ready o && not (elim o as (λ _. ℕ) [ None ↦ 0 | Some thread ↦ thread.budget ] == 0)

abbrev pub active : World → ℕ → Bool
active w t = active_in (thread_at w t)

pub stepped-idle : (u : World) (s : ℕ) → active u s ≡ false → stepped u s ≡ u
stepped-idle u s h = ap (λ b. cond b (result_unwrap_or (step u s) u) u) h

pub stepped-stop : (u : World) (s : ℕ) (reason : Reason) → step u s ≡ Err reason → stepped u s ≡ u
stepped-stop u s reason h =
    ap (λ (r : Result World Reason). cond (active u s) (result_unwrap_or r u) u) h
    ∙ same (active u s)
  where
    same : (b : Bool) → cond b u u ≡ u
    same true = refl
    same false = refl

pub stepped-ok : (u v : World) (s : ℕ) → active u s ≡ true → step u s ≡ Ok v → stepped u s ≡ v
stepped-ok u v s h is =
    ap (λ b. cond b (result_unwrap_or (step u s) u) u) h
    ∙ ap (λ (r : Result World Reason). result_unwrap_or r u) is

-- ---- an instruction of t beside a step of s

ok-beside : (u next : World) (s t : ℕ) → t ≢ s → step u t ≡ Ok next
    → step (stepped u s) t ≡ Ok (stepped next s)
ok-beside u next s t other is = by_active (active u s) refl (step u s) refl
  where
    same : active next s ≡ active u s
    same = ap active_in (step-others u next t s (λ e. other (sym e)) is)

    from : (a b : World) → stepped u s ≡ a → stepped next s ≡ b → step a t ≡ Ok b
        → step (stepped u s) t ≡ Ok (stepped next s)
    from a b p q h = ap (λ v. step v t) p ∙ h ∙ ap Ok (sym q)

    by_active : (b : Bool) → active u s ≡ b → (r : Result World Reason) → step u s ≡ r
        → step (stepped u s) t ≡ Ok (stepped next s)
    by_active false idle r h =
        from u next (stepped-idle u s idle) (stepped-idle next s (same ∙ idle)) is
    by_active true acts (Err reason) h =
        from u next (stepped-stop u s reason h)
        (stepped-stop next s reason (stops-stay u next t s reason (λ e. other (sym e)) is h)) is
    by_active true acts (Ok w1) h =
        let both = steps-commute u w1 next s t other h is in
        from w1 both.last (stepped-ok u w1 s acts h)
        (stepped-ok next both.last s (same ∙ acts) both.first) both.second

err-beside : (u : World) (s t : ℕ) (reason : Reason) → t ≢ s → step u t ≡ Err reason
    → step (stepped u s) t ≡ Err reason
err-beside u s t reason other is = by_active (active u s) refl (step u s) refl
  where
    by_active : (b : Bool) → active u s ≡ b → (r : Result World Reason) → step u s ≡ r
        → step (stepped u s) t ≡ Err reason
    by_active false idle r h = ap (λ v. step v t) (stepped-idle u s idle) ∙ is
    by_active true acts (Err why) h = ap (λ v. step v t) (stepped-stop u s why h) ∙ is
    by_active true acts (Ok w1) h =
        ap (λ v. step v t) (stepped-ok u w1 s acts h) ∙ stops-stay u w1 s t reason other h is

-- A change of worlds beside which t steps and stops, t runs beside.
steps-beside : (f : World → World) (t : ℕ)
    → ((u next : World) → step u t ≡ Ok next → step (f u) t ≡ Ok (f next))
    → ((u : World) (reason : Reason) → step u t ≡ Err reason → step (f u) t ≡ Err reason)
    → (n : ℕ) (u : World) → steps n (f u) t ≡ f (steps n u t)
steps-beside f t ok err zero u = refl
steps-beside f t ok err (suc n) u = by_step (λ next. steps-beside f t ok err n next) (step u t) refl
  where
    by_step : ((next : World) → steps n (f next) t ≡ f (steps n next t)) → (r : Result World Reason)
        → step u t ≡ r → steps (suc n) (f u) t ≡ f (steps (suc n) u t)
    by_step rest (Ok next) is =
        steps-ok n (f u) (f next) t (ok u next is) ∙ rest next ∙ ap f (sym (steps-ok n u next t is))
    by_step rest (Err reason) is =
        steps-stopped (suc n) (f u) t reason (err u reason is)
        ∙ ap f (sym (steps-stopped (suc n) u t reason is))

-- ---- threads after a step

pub stepped-others : (u : World) (s t : ℕ) → t ≢ s → thread_at (stepped u s) t ≡ thread_at u t
stepped-others u s t other = by_active (active u s) refl (step u s) refl
  where
    by_active : (b : Bool) → active u s ≡ b → (r : Result World Reason) → step u s ≡ r
        → thread_at (stepped u s) t ≡ thread_at u t
    by_active false idle r h = ap (λ v. thread_at v t) (stepped-idle u s idle)
    by_active true acts (Err why) h = ap (λ v. thread_at v t) (stepped-stop u s why h)
    by_active true acts (Ok w1) h =
        ap (λ v. thread_at v t) (stepped-ok u w1 s acts h) ∙ step-others u w1 s t other h

pub steps-others : (n : ℕ) (u : World) (s t : ℕ) → t ≢ s → thread_at (steps n u s) t ≡ thread_at u t
steps-others zero u s t other = refl
steps-others (suc n) u s t other = by_step (λ next. steps-others n next s t other) (step u s) refl
  where
    by_step : ((next : World) → thread_at (steps n next s) t ≡ thread_at next t)
        → (r : Result World Reason) → step u s ≡ r → thread_at (steps (suc n) u s) t ≡ thread_at u t
    by_step rest (Ok next) is =
        ap (λ v. thread_at v t) (steps-ok n u next s is)
        ∙ rest next
        ∙ step-others u next s t other is
    by_step rest (Err reason) is = ap (λ v. thread_at v t) (steps-stopped (suc n) u s reason is)

emptied-others : (u : World) (s t : ℕ) → t ≢ s → thread_at (emptied u s) t ≡ thread_at u t
emptied-others u s t other =
    ap flat (changed_other (option_map (registers_by released)) u.threads s t other)

pub ready_of-change : (f : Thread → Thread)
    → ((x : Thread) → is_state Ready (Some (f x)) ≡ is_state Ready (Some x)) → (o : Option Thread)
    → is_state Ready (option_map f o) ≡ is_state Ready o
ready_of-change f same None = refl
ready_of-change f same (Some x) = same x

stepped-ready : (u : World) (s t : ℕ)
    → is_state Ready (thread_at (stepped u s) t) ≡ is_state Ready (thread_at u t)
stepped-ready u s t = by_eq (eqb t s) refl
  where
    own : (b : Bool) → active u s ≡ b → (r : Result World Reason) → step u s ≡ r
        → is_state Ready (thread_at (stepped u s) s) ≡ is_state Ready (thread_at u s)
    own false idle r h = ap (λ v. is_state Ready (thread_at v s)) (stepped-idle u s idle)
    own true acts (Err why) h = ap (λ v. is_state Ready (thread_at v s)) (stepped-stop u s why h)
    own true acts (Ok w1) h =
        let paying = step-pays u w1 s h in
        ap (λ v. is_state Ready (thread_at v s)) (stepped-ok u w1 s acts h)
        ∙ ap (is_state Ready) paying.1
        ∙ ready_of-change (paid_by paying.0) (λ x. refl) (thread_at u s)

    by_eq : (b : Bool) → eqb t s ≡ b
        → is_state Ready (thread_at (stepped u s) t) ≡ is_state Ready (thread_at u t)
    by_eq true e =
        subst (λ n. is_state Ready (thread_at (stepped u s) n) ≡ is_state Ready (thread_at u n))
        (sym (eqb-true t s e)) (own (active u s) refl (step u s) refl)
    by_eq false e = ap (is_state Ready) (stepped-others u s t (λ q. different q e))
      where
        different : t ≡ s → eqb t s ≡ false → ⊥
        different q h = grind (arith, q, h)

emptied-ready : (u : World) (s t : ℕ)
    → is_state Ready (thread_at (emptied u s) t) ≡ is_state Ready (thread_at u t)
emptied-ready u s t = by_eq (eqb t s) refl
  where
    by_eq : (b : Bool) → eqb t s ≡ b
        → is_state Ready (thread_at (emptied u s) t) ≡ is_state Ready (thread_at u t)
    by_eq true e =
        subst (λ n. is_state Ready (thread_at (emptied u s) n) ≡ is_state Ready (thread_at u n))
        (sym (eqb-true t s e))
        (ap (is_state Ready) (changed_there (registers_by released) u.threads s)
        ∙ ready_of-change (registers_by released) (λ x. refl) (thread_at u s))
    by_eq false e = ap (is_state Ready) (emptied-others u s t (λ q. different q e))
      where
        different : t ≡ s → eqb t s ≡ false → ⊥
        different q h = grind (arith, q, h)

-- ---- what is left of t's part

abbrev pub budget_in : Option Thread → ℕ
budget_in o = elim o as (λ _. ℕ) [ None ↦ 0 | Some thread ↦ thread.budget ]

abbrev pub finish : World → ℕ → World
finish u t = steps (budget_of u t) u t

abbrev pub finish_all : World → List ℕ → World
finish_all u [] = u
finish_all u (t ∷ ts) = finish_all (finish u t) ts

pub finish-stepped : (u : World) (s t : ℕ) → t ≢ s → finish (stepped u s) t ≡ stepped (finish u t) s
finish-stepped u s t other =
    ap (λ n. steps n (stepped u s) t) (ap budget_in (stepped-others u s t other))
    ∙ steps-beside (λ v. stepped v s) t (λ v next. ok-beside v next s t other)
    (λ v reason. err-beside v s t reason other) (budget_of u t) u

finish-emptied : (u : World) (s t : ℕ) → t ≢ s → finish (emptied u s) t ≡ emptied (finish u t) s
finish-emptied u s t other =
    ap (λ n. steps n (emptied u s) t) (ap budget_in (emptied-others u s t other))
    ∙ steps-beside (λ v. emptied v s) t
    (λ v next. step-beside v next s t (registers_by released) other)
    (λ v reason. stops-beside v s t (registers_by released) reason other) (budget_of u t) u

pub positive : (c : Bool) (b : ℕ) → (c && not (b == 0)) ≡ true → b ≢ 0
positive true zero h = absurd (grind arith)
positive false zero h = absurd (grind arith)
positive c (suc b) h = omega arith

pub paid-budget : (r : Registers) (o : Option Thread)
    → budget_in (option_map (paid_by r) o) ≡ budget_in o - 1
paid-budget r None = refl
paid-budget r (Some x) = refl

finish-own : (u : World) (t : ℕ) → finish (stepped u t) t ≡ finish u t
finish-own u t = by_active (active u t) refl (step u t) refl
  where
    by_active : (b : Bool) → active u t ≡ b → (r : Result World Reason) → step u t ≡ r
        → finish (stepped u t) t ≡ finish u t
    by_active false idle r h = ap (λ v. finish v t) (stepped-idle u t idle)
    by_active true acts (Err why) h = ap (λ v. finish v t) (stepped-stop u t why h)
    by_active true acts (Ok next) h =
        let paying = step-pays u next t h in
        let less : budget_of next t ≡ budget_of u t - 1 =
        ap budget_in paying.1 ∙ paid-budget paying.0 (thread_at u t) in
        let some : budget_of u t ≢ 0 =
        positive (is_state Ready (thread_at u t)) (budget_of u t) acts in
        let count : budget_of u t ≡ suc (budget_of next t) = omega (arith, less, some) in
        ap (λ v. finish v t) (stepped-ok u next t acts h)
        ∙ sym (ap (λ n. steps n u t) count ∙ steps-ok (budget_of next t) u next t h)

-- ---- a step changes nothing of where all end

finish_all-stepped : (ts : List ℕ) (u : World) (s : ℕ)
    → Among ts s ⊎ (is_state Ready (thread_at u s) ≡ false)
    → finish_all (stepped u s) ts ≡ finish_all u ts
finish_all-stepped [] u s (inl h) = absurd h
finish_all-stepped [] u s (inr idle) =
    stepped-idle u s (ap (λ b. b && not (budget_of u s == 0)) idle)
finish_all-stepped (t ∷ ts) u s h =
    by_eq (λ known. finish_all-stepped ts (finish u t) s known) (eqb s t) refl h
  where
    by_eq : (Among ts s ⊎ (is_state Ready (thread_at (finish u t) s) ≡ false)
        → finish_all (stepped (finish u t) s) ts ≡ finish_all (finish u t) ts)
        → (b : Bool) → eqb s t ≡ b → Among (t ∷ ts) s ⊎ (is_state Ready (thread_at u s) ≡ false)
        → finish_all (stepped u s) (t ∷ ts) ≡ finish_all u (t ∷ ts)
    by_eq rest true e q =
        subst (λ n. finish_all (finish (stepped u n) t) ts ≡ finish_all (finish u t) ts)
        (sym (eqb-true s t e)) (ap (λ v. finish_all v ts) (finish-own u t))
    by_eq rest false e q = ap (λ v. finish_all v ts) (finish-stepped u s t other) ∙ rest (below q)
      where
        other : t ≢ s
        other z = grind (arith, z, e)

        below : Among (t ∷ ts) s ⊎ (is_state Ready (thread_at u s) ≡ false)
            → Among ts s ⊎ (is_state Ready (thread_at (finish u t) s) ≡ false)
        below (inl (inl z)) = absurd (other z)
        below (inl (inr z)) = inl z
        below (inr idle) =
            inr
            (ap (is_state Ready) (steps-others (budget_of u t) u t s (λ z. other (sym z))) ∙ idle)

finish_all-fold : (ss : List ℕ) (ts : List ℕ) (u : World)
    → ((s : ℕ) → Among ts s ⊎ (is_state Ready (thread_at u s) ≡ false))
    → finish_all (fold stepped u ss) ts ≡ finish_all u ts
finish_all-fold [] ts u known = refl
finish_all-fold (s ∷ ss) ts u known =
    finish_all-fold ss ts (stepped u s) still ∙ finish_all-stepped ts u s (known s)
  where
    still : (t : ℕ) → Among ts t ⊎ (is_state Ready (thread_at (stepped u s) t) ≡ false)
    still t = by (known t)
      where
        by : Among ts t ⊎ (is_state Ready (thread_at u t) ≡ false)
            → Among ts t ⊎ (is_state Ready (thread_at (stepped u s) t) ≡ false)
        by (inl z) = inl z
        by (inr idle) = inr (stepped-ready u s t ∙ idle)

-- ---- the reservations emptied first or each as its thread begins

emptied-finish : (ts : List ℕ) (u : World) (t : ℕ) → ((s : ℕ) → Among ts s → s ≢ t)
    → fold emptied (finish u t) ts ≡ finish (fold emptied u ts) t
emptied-finish [] u t apart = refl
emptied-finish (s ∷ ts) u t apart =
    ap (λ v. fold emptied v ts) (sym (finish-emptied u s t (λ e. apart s (inl refl) (sym e))))
    ∙ emptied-finish ts (emptied u s) t (λ x h. apart x (inr h))

pub emptied-budget : (w : World) (t : ℕ) → budget_of (emptied w t) t ≡ budget_of w t
emptied-budget w t =
    ap budget_in (changed_there (registers_by released) w.threads t) ∙ same (thread_at w t)
  where
    same : (o : Option Thread) → budget_in (option_map (registers_by released) o) ≡ budget_in o
    same None = refl
    same (Some x) = refl

pub all_alone-finish : (ts : List ℕ) (w : World) → Apart ts
    → all_alone w ts ≡ finish_all (fold emptied w ts) ts
all_alone-finish [] w apart = refl
all_alone-finish (t ∷ ts) w apart =
    ap (λ n. all_alone (steps n (emptied w t) t) ts) (sym (emptied-budget w t))
    ∙ all_alone-finish ts (finish (emptied w t) t) apart.1
    ∙ ap (λ v. finish_all v ts) (emptied-finish ts (emptied w t) t apart.0)

-- ---- where all have ended, nothing is left

finish_all-ended : (ts : List ℕ) (v : World) → ((t : ℕ) → Among ts t → finish v t ≡ v)
    → finish_all v ts ≡ v
finish_all-ended [] v ended = refl
finish_all-ended (t ∷ ts) v ended =
    ap (λ u. finish_all u ts) (ended t (inl refl)) ∙ finish_all-ended ts v (λ s h. ended s (inr h))

finish-ended : (v : World) (t : ℕ) → (budget_of v t ≡ 0) ⊎ IsTrue (is_err (step v t))
    → finish v t ≡ v
finish-ended v t (inl none) = ap (λ n. steps n v t) none
finish-ended v t (inr stops) = by_step (step v t) refl stops
  where
    by_step : (r : Result World Reason) → step v t ≡ r → IsTrue (is_err r) → finish v t ≡ v
    by_step (Ok next) is q = absurd (grind arith)
    by_step (Err reason) is q = steps-stopped (budget_of v t) v t reason is

fold-ready : (ts : List ℕ) (w : World) (t : ℕ)
    → is_state Ready (thread_at (fold emptied w ts) t) ≡ is_state Ready (thread_at w t)
fold-ready [] w t = refl
fold-ready (s ∷ ts) w t = fold-ready ts (emptied w s) t ∙ emptied-ready w s t

pub quanta-commute : (w : World) (s : List ℕ) → IsFull w s → mixed w s ≡ parallel w
quanta-commute w s full =
    let ready : List ℕ = ready_threads w in
    sym
    (finish_all-ended ready (mixed w s)
    (λ t h. finish-ended (mixed w s) t (full t (among_contains ready t h))))
    ∙ finish_all-fold s ready (fold emptied w ready) known
    ∙ sym (all_alone-finish ready w (places-apart 1 (is_state Ready) w.threads))
  where
    known : (t : ℕ)
        → Among (ready_threads w) t
        ⊎ (is_state Ready (thread_at (fold emptied w (ready_threads w)) t) ≡ false)
    known t = by (is_state Ready (thread_at w t)) refl
      where
        by : (b : Bool) → is_state Ready (thread_at w t) ≡ b
            → Among (ready_threads w) t
            ⊎ (is_state Ready (thread_at (fold emptied w (ready_threads w)) t) ≡ false)
        by true e = inl (ready-among w t e)
        by false e = inr (fold-ready (ready_threads w) w t ∙ e)
