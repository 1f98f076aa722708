use Rattle.std.proofs.Common.{take}
use Rattle.kernel_mem.specs.Memory.{IsDropped}
use Rattle.kernel_mem.proofs.drop.drop_uses.Given as goal

abbrev pub invariant-loop-index : goal.invariant-loop-index
invariant-loop-index l = IsDropped (take l.index l.space.entries) l.fn.frames l.frames
