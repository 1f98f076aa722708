-- How many grants an instruction needs: what bounds a part that grants and tries again. This
-- project's own rule.
use Rattle.std.specs.Prelude.{ℕ, zero, suc, Ok, Err}
use Rattle.dos_world.specs.World.{World}
use Rattle.dos_world.specs.declared.Reason.TheVariants.{Page, Fault, Service}
use Rattle.flat_machine.specs.Step.{step}
use Rattle.flat_machine.specs.Rest.{page_granted}

-- the grants that t's instruction needs, of which at most so many are counted
abbrev pub grants_needed : ℕ → World → ℕ → ℕ
grants_needed zero w t = 0
grants_needed (suc n) w t = elim (step w t) [
  | Ok next ↦ 0
  | Err reason ↦ elim reason [
    | Page address access ↦ suc (grants_needed n (page_granted w t address access) t)
    | Fault number ↦ 0
    | Service ↦ 0
  ]
]
