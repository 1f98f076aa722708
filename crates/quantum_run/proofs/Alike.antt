-- Instructions in worlds that their thread can't tell apart.
use Rattle.std.proofs.Common.{ℕ, zero, suc, ◌≡◌, refl, sym, subst, Result, Ok, Err}
use Rattle.dos_world.specs.World.{World}
use Rattle.dos_world.specs.declared.Reason.{Reason}
use Rattle.flat_machine.specs.Step.{step}
use Rattle.flat_machine.specs.Laws.{AreAlike}
use Rattle.flat_machine.proofs.Dependence.{stops-alike, steps-alike}
use Rattle.flat_machine.specs.Alone.{steps}
use Rattle.flat_machine.proofs.After.{steps-ok, steps-stopped}

pub steps-alike-all : (n : ℕ) (t : ℕ) (w u : World) → AreAlike t w u
    → AreAlike t (steps n w t) (steps n u t)
steps-alike-all zero t w u alike = alike
steps-alike-all (suc n) t w u alike =
    by_step (λ next after. steps-alike-all n t next after) (step w t) refl
  where
    by_step : ((next after : World) → AreAlike t next after
        → AreAlike t (steps n next t) (steps n after t)) → (r : Result World Reason)
        → step w t ≡ r → AreAlike t (steps (suc n) w t) (steps (suc n) u t)
    by_step rest (Ok next) h =
        let other = steps-alike t w u alike next h in
        let there : AreAlike t (steps n next t) (steps (suc n) u t) =
        subst (AreAlike t (steps n next t)) (sym (steps-ok n u other.0 t other.1))
        (rest next other.0 other.2) in
        subst (λ x. AreAlike t x (steps (suc n) u t)) (sym (steps-ok n w next t h)) there
    by_step rest (Err reason) h =
        let there : AreAlike t w (steps (suc n) u t) =
        subst (AreAlike t w)
        (sym (steps-stopped (suc n) u t reason (stops-alike t w u alike reason h))) alike in
        subst (λ x. AreAlike t x (steps (suc n) u t))
        (sym (steps-stopped (suc n) w t reason h)) there
