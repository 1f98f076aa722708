use Rattle.std.proofs.Common.{◌≡◌, take}
use Rattle.kernel_objects.specs.Pipework.{held_bytes, vector_bytes}
use Rattle.kernel_objects.proofs.pipes.copy_all.Given as goal

abbrev pub invariant-loop-buffer : goal.invariant-loop-buffer
invariant-loop-buffer l = vector_bytes l.copies.items ≡ held_bytes (take l.buffer-index l.buffers)
