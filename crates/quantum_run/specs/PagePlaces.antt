-- Places for pages, of which the first are written. This project's own rule.
use Rattle.std.specs.Prelude.{ℕ, ◌-◌, ◌++◌, List, Option, None, length, replicate}

-- so many places: those that are written, and empty ones
abbrev pub filled_up : List (Option (List ℕ)) → ℕ → List (Option (List ℕ))
filled_up written count = written ++ replicate (count - length written) None
