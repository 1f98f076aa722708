-- A list of one pack.
use Rattle.std.proofs.Common.{ℕ, zero, suc, ◌≡◌, ◌∙◌, sym, ap, subst, refl, List}
use Rattle.std.proofs.Common.{[], ◌∷◌, length, set, Option, Some, All, arith}
use Rattle.std.specs.Prelude.{slice_get}
use Rattle.std.proofs.lemmas.List.Elements.{All-head}
use Rattle.dos_world.specs.World.{World}
use Rattle.flat_machine.specs.Buffered.{with_part}
use Rattle.quantum_run.specs.Shows.{Pack, View}
use Rattle.worker_pool.specs.Ran.{AllRan, HasRun, budgets_left}
use Rattle.group_rounds.specs.Buffers.{part_in, parts_put}

pack-is : {p q : Pack} → ◌≡◌ {A = Option Pack} (Some p) (Some q) → p ≡ q
pack-is e = cc

-- it has run
pub one-ran : (v : View) (ps : List Pack) (p q : Pack) → length ps ≡ 1 → slice_get ps 0 ≡ Some p
    → HasRun v p q → AllRan v ps (set ps 0 q)
one-ran v [] p q one at ran = absurd (omega (arith, one))
one-ran v (x ∷ y ∷ ps) p q one at ran = absurd (omega (arith, one))
one-ran v (x ∷ []) p q one at ran = record { level = refl; each = at_place }
  where
    at_place : (i : ℕ) (y : Pack) → slice_get (x ∷ []) i ≡ Some y
        → (z : Pack) × (slice_get (q ∷ []) i ≡ Some z) × HasRun v y z
    at_place zero y there =
        (q, refl, subst (λ (n : Pack). HasRun v n q) (sym (pack-is at) ∙ pack-is there) ran)
    at_place (suc i) y there = cc

-- what holds of each holds of it
pub one-of : (P : Pack → Type 0) (ps : List Pack) (q : Pack) → length ps ≡ 1
    → All P (set ps 0 q) → P q
one-of P [] q one all = absurd (omega (arith, one))
one-of P (x ∷ ps) q one all = All-head P q ps all

-- its part is all that is put in
pub one-put : (ps : List Pack) (q : Pack) → length ps ≡ 1 → (w : World)
    → parts_put w (set ps 0 q) ≡ with_part w q.thread (part_in q)
one-put [] q one w = absurd (omega (arith, one))
one-put (x ∷ y ∷ ps) q one w = absurd (omega (arith, one))
one-put (x ∷ []) q one w = refl

-- its budget is all that is left
pub one-left : (ps : List Pack) (p : Pack) → length ps ≡ 1 → slice_get ps 0 ≡ Some p
    → budgets_left ps ≡ p.budget
one-left [] p one at = absurd (omega (arith, one))
one-left (x ∷ y ∷ ps) p one at = absurd (omega (arith, one))
one-left (x ∷ []) p one at =
    let same : x ≡ p = pack-is at in
    let budget : x.budget ≡ p.budget = ap (λ (n : Pack). n.budget) same in
    omega (arith, budget)

pub one-left-set : (ps : List Pack) (q : Pack) → length ps ≡ 1
    → budgets_left (set ps 0 q) ≡ q.budget
one-left-set [] q one = absurd (omega (arith, one))
one-left-set (x ∷ y ∷ ps) q one = absurd (omega (arith, one))
one-left-set (x ∷ []) q one = omega arith
