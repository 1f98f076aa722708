-- What the services of memory answer. This project's own rules.
use Rattle.std.specs.Prelude.{ℕ, Result, Ok, Err}
use Rattle.dos_world.specs.Kernel.{minus}

-- 0, or the refusal
abbrev pub answer_by : {A : Type 0} → Result A ℕ → ℕ
answer_by (Ok x) = 0
answer_by (Err number) = minus number
