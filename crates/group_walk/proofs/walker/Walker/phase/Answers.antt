use Rattle.std.proofs.Common.{ap, sym, ◌∙◌}
use Rattle.group_walk.specs.Places.{phase_at, place_at}
use Rattle.group_walk.specs.Walks.{Walk}
use Rattle.group_walk.proofs.Making.{phase_there}
use Rattle.group_walk.proofs.walker.Walker.phase.Goals as goal

pub returns-clause-phase : goal.returns-clause-phase
returns-clause-phase c =
    ap (λ (w : Walk). phase_at w.place) (sym c.self.view_is)
    ∙ phase_there c.self.inside.phase c.self.inside.starters.items c.self.inside.index

pub returns-clause-between : goal.returns-clause-between
returns-clause-between c = λ between.
    ap (λ (w : Walk). w.place) (sym c.self.view_is)
    ∙ ap (λ p. place_at p c.self.inside.starters.items c.self.inside.index) between
