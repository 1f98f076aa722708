-- What sinks and files tell, and how their faults are counted: this project's own rules.
use Rattle.std.specs.Prelude.{◌≡◌, ℕ, ◌+◌, ◌-◌, ◌^◌, ◌≤◌, min, List, ◌++◌, take, Option, Some, None}
use Rattle.std.specs.Prelude.{Result, OnErr}

-- a 64-bit count after one more, which stands still at its type's end
abbrev pub counted_to_limit : ℕ → ℕ
counted_to_limit n = min (n + 1) (2 ^ 64 - 1)

-- a count rose, or stands at its type's end
abbrev pub Rose : ℕ → ℕ → Type 0
Rose before now = counted_to_limit before ≤ now

-- an error comes only where the count rose, which never falls
pub record HasCause {T E : Type 0} (before now : ℕ) (result : Result T E) : Type 0 where
  pub later : before ≤ now
  pub failed : OnErr result (Rose before now)

-- what is told after these bytes more
abbrev pub grown : Option (List ℕ) → List ℕ → Option (List ℕ)
grown None piece = None
grown (Some told) piece = Some (told ++ piece)

-- the one is what the other begins with
abbrev pub IsFront : List ℕ → List ℕ → Type 0
IsFront short long = (rest : List ℕ) × (long ≡ short ++ rest)

-- what is told after a front of these bytes more
abbrev pub GrewByFront : Option (List ℕ) → Option (List ℕ) → List ℕ → Type 0
GrewByFront old new piece = (k : ℕ) × (new ≡ grown old (take k piece))
