-- Instructions one after another, over any memory. This project's own words.
use Rattle.std.specs.Prelude.{ℕ, zero, suc, ◌≡◌, Option, Some, None, Ok, Err}
use Rattle.dos_world.specs.World.{Registers}
use Rattle.flat_machine.specs.Over.{MemoryAnswers, one_in}

-- registers and memory after so many instructions; None where one of them stops
abbrev pub after_in : {M : Type 0} → MemoryAnswers M → ℕ → Registers → M → Option (Registers × M)
after_in answers zero r m = Some (r, m)
after_in answers (suc n) r m =
    elim (one_in answers r m) [
      | Ok next ↦ after_in answers n next.0 next.1
      | Err reason ↦ None
    ]

-- So many instructions go from these registers and this memory to those.
abbrev pub GoesTo : {M : Type 0} → MemoryAnswers M → ℕ → Registers → M → (after : Registers)
    → (left : M) → Type 0
GoesTo answers n r m after left = after_in answers n r m ≡ Some (after, left)
