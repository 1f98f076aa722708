use Rattle.std.proofs.Common.{◌≡◌, replicate, []}
use Rattle.circular_buffer.specs.Buffer.{buffer}
use Rattle.kernel_objects.proofs.pipes.empty_buffers.Given as goal

abbrev pub invariant-loop-place : goal.invariant-loop-place
invariant-loop-place l = l.buffers.items ≡ replicate l._place (buffer [] 4096)
