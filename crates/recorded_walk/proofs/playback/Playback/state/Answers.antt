use Rattle.std.proofs.Common.{ap, subst, ◌∙◌}
use Rattle.recorded_walk.specs.Playbacks.{Played, Stands}
use Rattle.recorded_walk.proofs.Places.{stands_there}
use Rattle.recorded_walk.proofs.playback.Playback.state.Goals as goal

pub returns-clause-stands : goal.returns-clause-stands
returns-clause-stands c = λ running.
    let kept = c.self.invariant.6 (ap (λ (p : Played). p.failed) c.self.view_is ∙ running) in
    subst Stands c.self.view_is
    (stands_there c.self.inside.images.items c.self.inside.config c.self.inside.track
    c.self.inside.reached c.self.inside.failed kept.1 kept.2 kept.0.used)
