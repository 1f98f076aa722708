-- Packs whose parts are under way show a mix of instructions, in whatever order they come.
use Rattle.std.proofs.Common.{ℕ, zero, suc, ◌+◌, ◌-◌, ◌≤◌, ◌≡◌, ◌≢◌, inl, inr, refl, sym, ap, ◌∙◌}
use Rattle.std.proofs.Common.{subst, Bool, cond, true, false, not, eqb, eqb-true, List, [], ◌∷◌}
use Rattle.std.proofs.Common.{Option, Some, None, option_map, Result, Ok, Err, arith}
use Rattle.std.specs.Prelude.{fold, ◌&&◌, ◌==◌}
use Rattle.dos_world.specs.World.{World, Thread, flat, thread_at, is_state, ready_threads}
use Rattle.dos_world.specs.World.{registers_by, released}
use Rattle.dos_world.specs.declared.Reason.{Reason}
use Rattle.dos_world.specs.declared.ThreadState.TheVariants.{Ready}
use Rattle.dos_world.proofs.Numbers.{changed_other, changed_there}
use Rattle.flat_machine.specs.Step.{step, paid_by}
use Rattle.flat_machine.specs.Alone.{budget_of, emptied, steps}
use Rattle.flat_machine.specs.Mixed.{stepped, mixed}
use Rattle.flat_machine.proofs.Stays.{stops-stay, stops-beside}
use Rattle.flat_machine.proofs.Commute.{changed-changed, steps-commute, step-beside, step-others}
use Rattle.flat_machine.proofs.Commute.{step-pays}
use Rattle.flat_machine.proofs.After.{steps-ok, steps-split, steps-stopped}
use Rattle.round_core.proofs.Commute.{Among, Apart, active, active_in, budget_in, paid-budget}
use Rattle.round_core.proofs.Commute.{places-apart, ready-in, ready_of-change, stepped-idle}
use Rattle.round_core.proofs.Commute.{stepped-ok, stepped-others, stepped-stop}
use Rattle.quantum_run.specs.Shows.{Pack, View, RanForOwning, Shows}
use Rattle.quantum_run.specs.Laws.{EndsAreUnderWay, SlicesAddUp}
use Rattle.quantum_run.specs.Mix.{RanAsNamed, times_named}
use Rattle.quantum_run.proofs.Mix.{shows-kept, shows-stepped}
use Rattle.quantum_run.proofs.Parts.{budget-is}
use Rattle.quantum_run.proofs.Slices.{begun-shows}
use Rattle.quantum_run.proofs.Writing.{for-nothing, out-is-for, slices-writing}

differ : (a b : ℕ) → a ≡ b → eqb a b ≡ false → ⊥
differ a b h e = grind (arith, h, e)

-- ---- what t runs beside another thread

-- A change of worlds beside which t steps and stops, t runs beside.
runs-beside : (f : World → World) (t : ℕ)
    → ((u next : World) → step u t ≡ Ok next → step (f u) t ≡ Ok (f next))
    → ((u : World) (reason : Reason) → step u t ≡ Err reason → step (f u) t ≡ Err reason)
    → (n : ℕ) (u : World) → steps n (f u) t ≡ f (steps n u t)
runs-beside f t ok err zero u = refl
runs-beside f t ok err (suc n) u = by_step (λ next. runs-beside f t ok err n next) (step u t) refl
  where
    by_step : ((next : World) → steps n (f next) t ≡ f (steps n next t)) → (r : Result World Reason)
        → step u t ≡ r → steps (suc n) (f u) t ≡ f (steps (suc n) u t)
    by_step rest (Ok next) is =
        steps-ok n (f u) (f next) t (ok u next is) ∙ rest next ∙ ap f (sym (steps-ok n u next t is))
    by_step rest (Err reason) is =
        steps-stopped (suc n) (f u) t reason (err u reason is)
        ∙ ap f (sym (steps-stopped (suc n) u t reason is))

ok-beside : (u next : World) (s t : ℕ) → t ≢ s → step u t ≡ Ok next
    → step (stepped u s) t ≡ Ok (stepped next s)
ok-beside u next s t other is = by_active (active u s) refl (step u s) refl
  where
    same : active next s ≡ active u s
    same = ap active_in (step-others u next t s (λ e. other (sym e)) is)

    from : (a b : World) → stepped u s ≡ a → stepped next s ≡ b → step a t ≡ Ok b
        → step (stepped u s) t ≡ Ok (stepped next s)
    from a b p q h = ap (λ v. step v t) p ∙ h ∙ ap Ok (sym q)

    by_active : (b : Bool) → active u s ≡ b → (r : Result World Reason) → step u s ≡ r
        → step (stepped u s) t ≡ Ok (stepped next s)
    by_active false idle r h =
        from u next (stepped-idle u s idle) (stepped-idle next s (same ∙ idle)) is
    by_active true acts (Err reason) h =
        from u next (stepped-stop u s reason h)
        (stepped-stop next s reason (stops-stay u next t s reason (λ e. other (sym e)) is h)) is
    by_active true acts (Ok w1) h =
        let both = steps-commute u w1 next s t other h is in
        from w1 both.last (stepped-ok u w1 s acts h)
        (stepped-ok next both.last s (same ∙ acts) both.first) both.second

err-beside : (u : World) (s t : ℕ) (reason : Reason) → t ≢ s → step u t ≡ Err reason
    → step (stepped u s) t ≡ Err reason
err-beside u s t reason other is = by_active (active u s) refl (step u s) refl
  where
    by_active : (b : Bool) → active u s ≡ b → (r : Result World Reason) → step u s ≡ r
        → step (stepped u s) t ≡ Err reason
    by_active false idle r h = ap (λ v. step v t) (stepped-idle u s idle) ∙ is
    by_active true acts (Err why) h = ap (λ v. step v t) (stepped-stop u s why h) ∙ is
    by_active true acts (Ok w1) h =
        ap (λ v. step v t) (stepped-ok u w1 s acts h) ∙ stops-stay u w1 s t reason other h is

beside-stepped : (n : ℕ) (u : World) (s t : ℕ) → t ≢ s
    → steps n (stepped u s) t ≡ stepped (steps n u t) s
beside-stepped n u s t other =
    runs-beside (λ v. stepped v s) t (λ v next. ok-beside v next s t other)
    (λ v reason. err-beside v s t reason other) n u

beside-emptied : (n : ℕ) (u : World) (s t : ℕ) → t ≢ s
    → steps n (emptied u s) t ≡ emptied (steps n u t) s
beside-emptied n u s t other =
    runs-beside (λ v. emptied v s) t
    (λ v next. step-beside v next s t (registers_by released) other)
    (λ v reason. stops-beside v s t (registers_by released) reason other) n u

-- ---- reservations

emptied-other : (u : World) (s t : ℕ) → t ≢ s → thread_at (emptied u s) t ≡ thread_at u t
emptied-other u s t other =
    ap flat (changed_other (option_map (registers_by released)) u.threads s t other)

-- whose budget and readiness stand
stands : (b : Option Thread → Bool) (n : Option Thread → ℕ) (u : World) (s t : ℕ)
    → ((o : Option Thread) → b (option_map (registers_by released) o) ≡ b o)
    → ((o : Option Thread) → n (option_map (registers_by released) o) ≡ n o)
    → (b (thread_at (emptied u s) t) ≡ b (thread_at u t))
    × (n (thread_at (emptied u s) t) ≡ n (thread_at u t))
stands b n u s t same_b same_n = by_eq (eqb t s) refl
  where
    here : (b (thread_at (emptied u s) s) ≡ b (thread_at u s))
        × (n (thread_at (emptied u s) s) ≡ n (thread_at u s))
    here =
        let there = changed_there (registers_by released) u.threads s in
        (ap b there ∙ same_b (thread_at u s), ap n there ∙ same_n (thread_at u s))

    by_eq : (c : Bool) → eqb t s ≡ c
        → (b (thread_at (emptied u s) t) ≡ b (thread_at u t))
        × (n (thread_at (emptied u s) t) ≡ n (thread_at u t))
    by_eq true e =
        subst (λ k. (b (thread_at (emptied u s) k) ≡ b (thread_at u k))
        × (n (thread_at (emptied u s) k) ≡ n (thread_at u k))) (sym (eqb-true t s e)) here
    by_eq false e =
        let other = emptied-other u s t (λ q. differ t s q e) in (ap b other, ap n other)

all-stand : (ts : List ℕ) (u : World) (t : ℕ)
    → (is_state Ready (thread_at (fold emptied u ts) t) ≡ is_state Ready (thread_at u t))
    × (budget_of (fold emptied u ts) t ≡ budget_of u t)
all-stand [] u t = (refl, refl)
all-stand (s ∷ ts) u t =
    let rest = all-stand ts (emptied u s) t in
    let one = stands (is_state Ready) budget_in u s t
    (ready_of-change (registers_by released) (λ x. refl)) same in
    (rest.0 ∙ one.0, rest.1 ∙ one.1)
  where
    same : (o : Option Thread) → budget_in (option_map (registers_by released) o) ≡ budget_in o
    same None = refl
    same (Some x) = refl

-- ---- a pack shows what it showed when others' reservations are emptied

shows-emptied : (p : Pack) (v : View) (u : World) (s : ℕ) → s ≢ p.thread → Shows p v u
    → Shows p v (emptied u s)
shows-emptied p v u s other sh =
    shows-kept p v u (emptied u s) s other refl refl
    (emptied-other u s p.thread (λ e. other (sym e))) refl (λ frame theirs. refl) sh

shows-fold-emptied : (p : Pack) (v : View) (ts : List ℕ) (n : ℕ) (u : World)
    → ((s : ℕ) → Among ts s → s ≢ p.thread) → Shows p v (steps n u p.thread)
    → Shows p v (steps n (fold emptied u ts) p.thread)
shows-fold-emptied p v [] n u others sh = sh
shows-fold-emptied p v (s ∷ ts) n u others sh =
    let other : s ≢ p.thread = others s (inl refl) in
    shows-fold-emptied p v ts n (emptied u s) (λ x h. others x (inr h))
    (subst (Shows p v) (sym (beside-emptied n u s p.thread (λ e. other (sym e))))
    (shows-emptied p v (steps n u p.thread) s other sh))

-- its own with them
shows-all-emptied : (p : Pack) (v : View) (ts : List ℕ) (n : ℕ) (u : World) → Apart ts
    → Among ts p.thread → Shows p v (steps n (emptied u p.thread) p.thread)
    → Shows p v (steps n (fold emptied u ts) p.thread)
shows-all-emptied p v [] n u apart among sh = absurd among
shows-all-emptied p v (s ∷ ts) n u apart among sh =
    by_eq (λ x. shows-all-emptied p v ts n x apart.1) (eqb s p.thread) refl among
  where
    by_eq : ((x : World) → Among ts p.thread
        → Shows p v (steps n (emptied x p.thread) p.thread)
        → Shows p v (steps n (fold emptied x ts) p.thread))
        → (b : Bool) → eqb s p.thread ≡ b → Among (s ∷ ts) p.thread
        → Shows p v (steps n (fold emptied (emptied u s) ts) p.thread)
    by_eq rest true e h =
        let here : s ≡ p.thread = eqb-true s p.thread e in
        shows-fold-emptied p v ts n (emptied u s) (λ x k y. apart.0 x k (y ∙ sym here))
        (subst (λ k. Shows p v (steps n (emptied u k) p.thread)) (sym here) sh)
    by_eq rest false e h =
        let other : p.thread ≢ s = λ q. differ s p.thread (sym q) e in
        rest (emptied u s) (below h)
        (subst (λ x. Shows p v (steps n x p.thread))
        (ap (λ threads. record u { threads = threads })
        (changed-changed (option_map (registers_by released)) (option_map (registers_by released))
        u.threads p.thread s (λ q. other (sym q))))
        (subst (Shows p v) (sym (beside-emptied n (emptied u p.thread) s p.thread other))
        (shows-emptied p v (steps n (emptied u p.thread) p.thread) s (λ q. other (sym q)) sh)))
      where
        below : Among (s ∷ ts) p.thread → Among ts p.thread
        below (inl y) = absurd (differ s p.thread y e)
        below (inr y) = y

-- ---- a pack shows where the order leads

ready-acts : (u : World) (t : ℕ) → is_state Ready (thread_at u t) ≡ true → 1 ≤ budget_of u t
    → active u t ≡ true
ready-acts u t ready some =
    ap (λ b. b && not (budget_of u t == 0)) ready ∙ go (budget_of u t) some
  where
    go : (b : ℕ) → 1 ≤ b → not (b == 0) ≡ true
    go zero h = absurd (omega (arith, h))
    go (suc b) h = grind arith

shows-mixed : (p : Pack) (v : View) (order : List ℕ) (u : World)
    → is_state Ready (thread_at u p.thread) ≡ true
    → times_named p.thread order ≤ budget_of u p.thread
    → Shows p v (steps (times_named p.thread order) u p.thread)
    → Shows p v (fold stepped u order)
shows-mixed p v [] u ready paid sh = sh
shows-mixed p v (s ∷ order) u ready paid sh =
    by_eq (λ x. shows-mixed p v order x) (s == p.thread) refl paid sh
  where
    t : ℕ
    t = p.thread

    n : ℕ
    n = times_named p.thread order

    Rest : Type 0
    Rest = (x : World) → is_state Ready (thread_at x p.thread) ≡ true
        → times_named p.thread order ≤ budget_of x p.thread
        → Shows p v (steps (times_named p.thread order) x p.thread)
        → Shows p v (fold stepped x order)

    own : Rest → suc n ≤ budget_of u p.thread → Shows p v (steps (suc n) u p.thread)
        → (r : Result World Reason) → step u p.thread ≡ r
        → Shows p v (fold stepped (stepped u p.thread) order)
    own rest few shown (Err reason) is =
        subst (λ x. Shows p v (fold stepped x order)) (sym (stepped-stop u p.thread reason is))
        (rest u ready (omega (arith, few))
        (subst (Shows p v)
        (steps-stopped (suc n) u p.thread reason is ∙ sym (steps-stopped n u p.thread reason is))
        shown))
    own rest few shown (Ok next) is =
        let paying = step-pays u next p.thread is in
        let less : budget_of next p.thread ≡ budget_of u p.thread - 1 =
        ap budget_in paying.1 ∙ paid-budget paying.0 (thread_at u p.thread) in
        let acts = ready-acts u p.thread ready (omega (arith, few)) in
        subst (λ x. Shows p v (fold stepped x order)) (sym (stepped-ok u next p.thread acts is))
        (rest next
        (ap (is_state Ready) paying.1
        ∙ ready_of-change (paid_by paying.0) (λ x. refl) (thread_at u p.thread) ∙ ready)
        (omega (arith, less, few))
        (subst (Shows p v) (steps-ok n u next p.thread is) shown))

    by_eq : Rest → (b : Bool) → (s == p.thread) ≡ b
        → cond (s == p.thread) (suc n) n ≤ budget_of u p.thread
        → Shows p v (steps (cond (s == p.thread) (suc n) n) u p.thread)
        → Shows p v (fold stepped (stepped u s) order)
    by_eq rest true e few shown =
        subst (λ k. Shows p v (fold stepped (stepped u k) order)) (sym (eqb-true s p.thread e))
        (own rest (subst (λ b. cond b (suc n) n ≤ budget_of u p.thread) e few)
        (subst (λ b. Shows p v (steps (cond b (suc n) n) u p.thread)) e shown)
        (step u p.thread) refl)
    by_eq rest false e few shown =
        let other : p.thread ≢ s = λ q. differ s p.thread (sym q) e in
        let same = stepped-others u s p.thread other in
        rest (stepped u s) (ap (is_state Ready) same ∙ ready)
        (subst (λ k. n ≤ k) (sym (ap budget_in same))
        (subst (λ b. cond b (suc n) n ≤ budget_of u p.thread) e few))
        (subst (Shows p v) (sym (beside-stepped n u s p.thread other))
        (shows-stepped p v (steps n u p.thread) s (λ q. other (sym q))
        (subst (λ b. Shows p v (steps (cond b (suc n) n) u p.thread)) e shown)))

pub under-way : (w : World) (order : List ℕ) (v : View) (t : ℕ) (opening pack : Pack)
    → Among (ready_threads w) t → RanAsNamed w order v t opening pack
    → Shows pack v (mixed w order)
under-way w order v t opening pack among h =
    let mine : pack.thread ≡ opening.thread = h.same ∙ sym h.thread in
    let named : times_named pack.thread order ≡ times_named t order =
    ap (λ k. times_named k order) h.same in
    let begun : Shows pack v
    (steps (times_named t order) (emptied w opening.thread) opening.thread) =
    h.ran (emptied w opening.thread) (begun-shows opening v w h.shows) in
    let there : Shows pack v
    (steps (times_named pack.thread order) (emptied w pack.thread) pack.thread) =
    subst (λ k. Shows pack v (steps (times_named pack.thread order) (emptied w k) k)) (sym mine)
    (subst (λ n. Shows pack v (steps n (emptied w opening.thread) opening.thread)) (sym named)
    begun) in
    let is : is_state Ready (thread_at w pack.thread) ≡ true =
    ap (λ k. is_state Ready (thread_at w k)) h.same ∙ ready-in w t among in
    let all = all-stand (ready_threads w) w pack.thread in
    let budget : budget_of w opening.thread ≡ opening.budget =
    budget-is w opening.thread opening.registers opening.budget h.shows.thread in
    let whole : budget_of (fold emptied w (ready_threads w)) pack.thread ≡ opening.budget =
    all.1 ∙ ap (budget_of w) mine ∙ budget in
    shows-mixed pack v order (fold emptied w (ready_threads w)) (all.0 ∙ is)
    (subst (λ n. n ≤ budget_of (fold emptied w (ready_threads w)) pack.thread) (sym named)
    (subst (λ n. times_named t order ≤ n) (sym whole) h.paid))
    (shows-all-emptied pack v (ready_threads w) (times_named pack.thread order) w
    (places-apart 1 (is_state Ready) w.threads)
    (subst (Among (ready_threads w)) (sym h.same) among) there)

-- ---- slices

slices-owning : (n m : ℕ) (p q r : Pack) (v : View) → q.thread ≡ p.thread → RanForOwning n p v q
    → RanForOwning m q v r → RanForOwning (n + m) p v r
slices-owning n m p q r v same first second = λ w shows.
    subst (λ k. Shows r v k)
    (ap (λ k. steps m (steps n w p.thread) k) same ∙ sym (steps-split n m w p.thread))
    (second (steps n w p.thread) (first w shows))

pub slices-add-up : SlicesAddUp
slices-add-up n m p q r v same scheme first second = record {
  owning = λ none.
      slices-owning n m p q r v same (first.owning none) (second.owning (scheme ∙ none));
  writing = slices-writing n m p q r v first.writing second.writing;
}

pub under-way-ends : (p q : Pack) (v : View) → EndsAreUnderWay p q v
under-way-ends p q v = record {
  out = λ ran. record {
    owning = λ none w shows.
        subst (λ n. Shows q v (steps n w p.thread))
        (budget-is w p.thread p.registers p.budget shows.thread) (ran.owning none w shows);
    writing = out-is-for p q v ran.writing;
  };
  begun = record { owning = λ none w shows. shows; writing = for-nothing p v };
}
