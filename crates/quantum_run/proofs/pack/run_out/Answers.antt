use Rattle.std.proofs.Common.{◌≡◌, Bool, true, false, refl, arith}
use Rattle.quantum_run.proofs.pack.run_out.Goals as goal

-- an answer that can't be false
sure : (answer : Bool) → (answer ≡ false → ⊥) → answer ≡ true
sure true never = refl
sure false never = absurd (never refl)

-- With its whole budget to spend the thread has run out.
pub returns-clause-out : goal.returns-clause-out
returns-clause-out c =
    c.run_slice-out.ensures.out (sure c.run_slice-out.result
    (λ more. let left = c.run_slice-out.ensures.more more in
    omega (arith, left.1, left.2, c.budget-whole.ensures)))
