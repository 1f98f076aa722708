-- What the shim and the sinks tell, and tell more. This project's own words.
use Rattle.std.specs.Prelude.{ℕ, ◌≡◌, List, ◌++◌, Option}
use Rattle.dos_io.specs.Borders.{BorderState}
use Rattle.dos_io.specs.Outside.{grown}
use Rattle.dos_io.specs.declared.exchange.Exchange.{Exchange}

-- what the shim and the two sinks tell
pub record Telling : Type 0 where
  pub exchanges : List Exchange
  pub output : Option (List ℕ)
  pub error : Option (List ℕ)

abbrev pub telling : List Exchange → Option (List ℕ) → Option (List ℕ) → Telling
telling exchanges output error = record { exchanges = exchanges; output = output; error = error }

-- these exchanges and these bytes are told more
pub record ToldMore (before after : Telling) : Type 0 where
  pub exchanges : List Exchange
  pub output : List ℕ
  pub error : List ℕ
  pub exchanges_are : after.exchanges ≡ before.exchanges ++ exchanges
  pub output_is : after.output ≡ grown before.output output
  pub error_is : after.error ≡ grown before.error error

-- what is told at a border
abbrev pub told_at : BorderState → Telling
told_at b = telling b.shim.told b.output b.error
