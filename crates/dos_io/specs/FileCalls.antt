-- What files are asked. This project's own rule.
use Rattle.std.specs.Prelude.{ℕ, List}

-- a call, by the name that it is of: for the name's content, or to give it one
pub data FileCall : Type 0 where
  getting : List ℕ → FileCall
  setting : List ℕ → FileCall
