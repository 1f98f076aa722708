use Rattle.std.proofs.Common.{◌≡◌, ℕ, ◌+◌, ◌<◌, true}
use Rattle.std.specs.Prelude.{is_some}
use Rattle.dos_world.specs.World.{look}
use Rattle.kernel_mem.proofs.ranges.all_mapped.Given as goal

abbrev pub invariant-loop-index : goal.invariant-loop-index
invariant-loop-index l = (k : ℕ) → k < l.index → is_some (look l.space.entries (l.page + k)) ≡ true
