use Rattle.std.proofs.Common.{subst}
use Rattle.space_map.specs.Mapping.{Mapping}
use Rattle.space_map.proofs.Places.{Rises}
use Rattle.space_map.proofs.Runs.{first-at, first-gap}
use Rattle.space_map.proofs.space.Space.first_from.Goals as goal

pub returns-in-Ok : goal.returns-in-Ok
returns-in-Ok c =
    let rises = subst (λ (m : Mapping). Rises m.entries) c.self.view_is c.self.invariant.rising in
    first-at c.args.self.now.entries c.args.page c.in-Ok.place rises c.in-Ok.ensures.found

pub returns-in-Err : goal.returns-in-Err
returns-in-Err c =
    first-gap c.args.self.now.entries c.args.page c.in-Err.place c.in-Err.ensures.gap
