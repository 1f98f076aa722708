-- So many instructions of a thread, one after another.
use Rattle.std.proofs.Common.{ℕ, zero, suc, ◌+◌, ◌≡◌, refl, sym, ap, ◌∙◌, subst, List, Option, Some}
use Rattle.std.proofs.Common.{None, option_map, Result, Ok, Err, arith}
use Rattle.dos_world.specs.World.{World, Registers, thread_at, with_thread}
use Rattle.dos_world.specs.declared.Reason.{Reason}
use Rattle.flat_machine.specs.Step.{step, paid_by}
use Rattle.flat_machine.specs.Laws.{kept}
use Rattle.flat_machine.proofs.Stays.{step-form}
use Rattle.flat_machine.specs.Alone.{steps}
use Rattle.flat_machine.specs.Laws.{after_steps}
use Rattle.dos_world.specs.World.{ran}
use Rattle.flat_machine.proofs.Threads.{ran-twice, ran-same}

Some-is : {v w : World} → ◌≡◌ {A = Option World} (Some v) (Some w) → v ≡ w
Some-is h = cc

abbrev rest : ℕ → ℕ → Result World Reason → Option World
rest n t r = elim r as (λ _. Option World) [ Ok next ↦ after_steps n next t | Err reason ↦ None ]

-- The first of them, and the others: each of them gave Ok.
pub after-first : (n : ℕ) (w v : World) (t : ℕ) → after_steps (suc n) w t ≡ Some v
    → (next : World) × (step w t ≡ Ok next) × (after_steps n next t ≡ Some v)
after-first n w v t h = by_step (step w t) refl h
  where
    by_step : (r : Result World Reason) → step w t ≡ r → rest n t r ≡ Some v
        → (next : World) × (step w t ≡ Ok next) × (after_steps n next t ≡ Some v)
    by_step (Ok next) is q = (next, is, q)
    by_step (Err reason) is q = cc

-- What an instruction makes of one count and world, it makes of them all.
pub same-after : {A : Type 0} (t : ℕ) (F : ℕ → World → A)
    → ((k : ℕ) (u next : World) → step u t ≡ Ok next → F (suc k) u ≡ F k next)
    → (n m : ℕ) (w v : World) → after_steps n w t ≡ Some v → F (n + m) w ≡ F m v
same-after t F one zero m w v h = let none : 0 + m ≡ m = omega arith in
    ap (λ k. F k w) none ∙ ap (F m) (Some-is h)
same-after t F one (suc n) m w v h =
    let first = after-first n w v t h in
    let count : suc n + m ≡ suc (n + m) = omega arith in
    ap (λ k. F k w) count ∙ one (n + m) w first.0 first.1 ∙ same-after t F one n m first.0 v first.2

-- What each instruction keeps, they all keep.
pub kept-after : (t : ℕ) (P : World → Type 0)
    → ((u next : World) → step u t ≡ Ok next → P u → P next) → (n : ℕ) (w v : World)
    → after_steps n w t ≡ Some v → P w → P v
kept-after t P one zero w v h p = subst P (Some-is h) p
kept-after t P one (suc n) w v h p =
    let first = after-first n w v t h in
    kept-after t P one n first.0 v first.2 (one w first.0 first.1 p)

-- one instruction more
pub after-more : (n : ℕ) (w v next : World) (t : ℕ) → after_steps n w t ≡ Some v
    → step v t ≡ Ok next → after_steps (suc n) w t ≡ Some next
after-more zero w v next t h is = ap (rest 0 t) (ap (λ u. step u t) (Some-is h) ∙ is)
after-more (suc n) w v next t h is =
    let first = after-first n w v t h in
    ap (rest (suc n) t) first.1 ∙ after-more n first.0 v next t first.2 is

-- ---- at most so many instructions

pub steps-ok : (n : ℕ) (w next : World) (t : ℕ) → step w t ≡ Ok next
    → steps (suc n) w t ≡ steps n next t
steps-ok n w next t is = ap (λ
    (r : Result World Reason). elim r as (λ _. World) [
      | Ok v ↦ steps n v t
      | Err reason ↦ w
    ]) is

-- they go on from where some of them led
pub steps-after : (n m : ℕ) (w v : World) (t : ℕ) → after_steps n w t ≡ Some v
    → steps (n + m) w t ≡ steps m v t
steps-after n m w v t h =
    same-after t (λ k u. steps k u t) (λ k u next is. steps-ok k u next t is) n m w v h

-- who stops stays
pub steps-stopped : (m : ℕ) (w : World) (t : ℕ) (reason : Reason) → step w t ≡ Err reason
    → steps m w t ≡ w
steps-stopped zero w t reason is = refl
steps-stopped (suc m) w t reason is =
    ap (λ (r : Result World Reason). elim r as (λ _. World) [ Ok v ↦ steps m v t | Err cause ↦ w ])
    is

-- Where none of them stopped, that is where they all led.
pub steps-all : (n : ℕ) (w v : World) (t : ℕ) → after_steps n w t ≡ Some v → steps n w t ≡ v
steps-all n w v t h = let all : n ≡ n + 0 = omega arith in
    ap (λ k. steps k w t) all ∙ steps-after n 0 w v t h

-- And they go on from where any of them led, whether one stopped or not.
pub steps-split : (n m : ℕ) (w : World) (t : ℕ) → steps (n + m) w t ≡ steps m (steps n w t) t
steps-split zero m w t = let none : 0 + m ≡ m = omega arith in ap (λ k. steps k w t) none
steps-split (suc n) m w t =
    let count : suc n + m ≡ suc (n + m) = omega arith in
    ap (λ k. steps k w t) count ∙ by_step (λ next. steps-split n m next t) (step w t) refl
  where
    by_step : ((next : World) → steps (n + m) next t ≡ steps m (steps n next t) t)
        → (r : Result World Reason) → step w t ≡ r
        → steps (suc (n + m)) w t ≡ steps m (steps (suc n) w t) t
    by_step more (Ok next) is =
        steps-ok (n + m) w next t is ∙ more next
        ∙ ap (λ v. steps m v t) (sym (steps-ok n w next t is))
    by_step more (Err reason) is =
        steps-stopped (suc (n + m)) w t reason is ∙ sym (steps-stopped m w t reason is)
        ∙ ap (λ v. steps m v t) (sym (steps-stopped (suc n) w t reason is))

-- ---- what they change: bytes, and their thread

abbrev with_bytes : List ℕ → World → World
with_bytes bytes w = record w { bytes = bytes }

-- Where they led, all is as it was but the bytes and the thread's registers and budget.
pub after-form : (n : ℕ) (w v : World) (t : ℕ) (r : Registers) (b : ℕ) → after_steps n w t ≡ Some v
    → option_map kept (thread_at v t) ≡ Some (r, b)
    → v ≡ record (with_thread w t (ran r b)) { bytes = v.bytes }
after-form zero w v t r b h thread =
    let is : w ≡ v = Some-is h in
    sym (ran-same v t r b thread)
    ∙ ap (λ (u : World). with_bytes v.bytes (with_thread u t (ran r b))) (sym is)
after-form (suc n) w v t r b h thread =
    let first = after-first n w v t h in
    let form = step-form w first.0 t first.1 in
    after-form n first.0 v t r b first.2 thread
    ∙ ap (λ (u : World). with_bytes v.bytes (with_thread u t (ran r b))) form.is
    ∙ ap (with_bytes v.bytes)
    (ran-twice (record w { bytes = form.bytes }) t (paid_by form.registers) r b (λ x. refl))
