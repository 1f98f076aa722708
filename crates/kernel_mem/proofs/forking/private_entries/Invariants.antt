use Rattle.std.proofs.Common.{◌≡◌, take}
use Rattle.dos_world.specs.ProcessCalls.{private_entries}
use Rattle.kernel_mem.proofs.forking.private_entries.Given as goal

abbrev pub invariant-loop-index : goal.invariant-loop-index
invariant-loop-index l = l.count ≡ private_entries (take l.index l.space.entries)
