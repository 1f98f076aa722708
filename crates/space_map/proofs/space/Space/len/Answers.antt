use Rattle.std.proofs.Common.{subst}
use Rattle.space_map.specs.Mapping.{Mapping, IsRising}
use Rattle.space_map.proofs.Places.{rising-adjacent}
use Rattle.space_map.proofs.space.Space.len.Goals as goal

pub returns-clause-rising : goal.returns-clause-rising
returns-clause-rising c =
    subst (λ (m : Mapping). IsRising m.entries) c.self.view_is
    (rising-adjacent c.self.inside.entries.items c.self.invariant.rising)
