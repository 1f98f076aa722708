use Rattle.std.proofs.Common.{◌≡◌, take}
use Rattle.debug_connection.specs.Keeping.{texts_of}
use Rattle.dos_cmd.proofs.debug.copies_of.Given as goal

abbrev pub invariant-loop-index : goal.invariant-loop-index
invariant-loop-index l = texts_of l.copies.items ≡ take l.index l.names
