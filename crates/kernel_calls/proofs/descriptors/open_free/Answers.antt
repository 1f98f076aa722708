use Rattle.std.specs.Prelude.{count_by, position, is_none, IfSome}
use Rattle.std.proofs.Common.{◌≡◌, ◌<◌, Option, Some, None, IsSome}
use Rattle.dos_world.specs.World.{Holdings}
use Rattle.proc_table.specs.Tables.{held_in}
use Rattle.kernel_calls.proofs.DescriptorCounts.{some_free}
use Rattle.kernel_calls.proofs.descriptors.open_free.Goals as goal

pub unreachable-requires : goal.unreachable-requires
unreachable-requires c =
    by (held_in c.args.table.now.processes c.args.pid) c.requires.live c.requires.some
    c.in-None.ensures.lowest
  where
    by : (o : Option Holdings) → IsSome o → IfSome o (λ h. 0 < count_by is_none h.descriptors)
        → IfSome o (λ h. None ≡ position is_none h.descriptors) → ⊥
    by None live some none = cc
    by (Some h) live some none = some_free h.descriptors some none
