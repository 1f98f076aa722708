use Rattle.std.proofs.Common.{refl}
use Rattle.kernel_objects.proofs.Pipeworks.{kept-none}
use Rattle.kernel_objects.proofs.pipes.Pipes.reserve.Goals as goal

pub invariant_of-result : goal.invariant_of-result
invariant_of-result c = kept-none _ _ _ 64 refl c.in_ok-empty_buffers.ensures
