use Rattle.std.proofs.Common.{◌≡◌, drop}
use Rattle.debug_client.specs.Births.{knows_named}
use Rattle.debug_client.proofs.births.Births.knows_named.Given as goal

abbrev pub invariant-loop-resumption : goal.invariant-loop-resumption
invariant-loop-resumption l =
    knows_named l.self (drop l.resumption-index l.resumptions)
    ≡ knows_named l.self l.resumptions
