use Rattle.std.proofs.Common.{◌≡◌, map, take}
use Rattle.kernel_objects.specs.Pipework.{filled}
use Rattle.kernel_objects.proofs.pipes.filled_buffers.Given as goal

abbrev pub invariant-loop-held : goal.invariant-loop-held
invariant-loop-held l = l.buffers.items ≡ map filled (take l.held-index l.bytes)
