use Rattle.std.proofs.Common.{IsSome, subst, Option, None}
use Rattle.dos_world.specs.World.{Thread}
use Rattle.proc_table.proofs.Spread.{in_gap}
use Rattle.proc_table.proofs.threads.place_of.Goals as goal

pub unreachable-requires : goal.unreachable-requires
unreachable-requires c =
    let never : IsSome {T = Thread} None =
    subst (λ (o : Option Thread). IsSome o)
    (in_gap c.args.live.now c.args.tid c.in-Err.field-0 c.in-Err.ensures.gap)
    c.requires.live in
    cc
