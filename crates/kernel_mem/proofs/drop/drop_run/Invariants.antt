use Rattle.std.proofs.Common.{take}
use Rattle.std.specs.Prelude.{filter}
use Rattle.space_map.specs.Mapping.{in_run}
use Rattle.kernel_mem.specs.Memory.{IsDropped}
use Rattle.kernel_mem.proofs.drop.drop_run.Given as goal

abbrev pub invariant-loop-place : goal.invariant-loop-place
invariant-loop-place l =
    IsDropped (filter (in_run l.page l.count) (take l.place l.space.entries)) l.fn.frames l.frames
