use Rattle.std.proofs.Common.{ap, subst, ◌∙◌}
use Rattle.debug_session.specs.Positions.{Position, position_after}
use Rattle.recorded_walk.specs.Playbacks.{IsStartOf, Played, MovesSilently}
use Rattle.recorded_walk.proofs.Kept.{kept_further}
use Rattle.recorded_walk.proofs.Places.{stands_there}
use Rattle.recorded_walk.proofs.Stretching.{runs_silently}
use Rattle.recorded_walk.proofs.playback.Playback.run_on.Goals as goal

pub invariant_of-self : goal.invariant_of-self
invariant_of-self c =
    let kept = c.self.invariant.6 (ap (λ (p : Played). p.failed) c.self.view_is ∙ c.requires) in
    let ran = c.run_on-count.ensures in
    kept_further c.self.inside.images.items c.self.inside.config c.self.inside.track
    c.run_on-count.new.self c.self.inside.reached c.self.inside.last c.self.inside.misfit
    c.self.inside.entries c.furthest-self-inside.result c.self.inside.failed
    (ran.come _ kept.1) ran.same ran.on_track c.furthest-self-inside.ensures.one
    c.furthest-self-inside.ensures.second kept c.self.invariant

pub returns-clause-silent : goal.returns-clause-silent
returns-clause-silent c =
    let kept = c.self.invariant.6 (ap (λ (p : Played). p.failed) c.self.view_is ∙ c.requires) in
    subst (λ (p : Played). (start : Position) → IsStartOf p start
    → MovesSilently c.args.stops.now c.args.kept.now c.run_on-count.result
    (position_after p.moves start))
    c.self.view_is
    (runs_silently c.self.inside.images.items c.self.inside.config c.self.inside.track
    c.run_on-count.new.self c.self.inside.reached c.self.inside.failed c.args.stops.now
    c.args.kept.now
    c.run_on-count.result kept.1 kept.2 c.run_on-count.ensures.runs)

pub returns-clause-stands : goal.returns-clause-stands
returns-clause-stands c =
    let kept = c.self.invariant.6 (ap (λ (p : Played). p.failed) c.self.view_is ∙ c.requires) in
    let ran = c.run_on-count.ensures in
    stands_there c.self.inside.images.items c.self.inside.config c.run_on-count.new.self
    c.furthest-self-inside.result c.self.inside.failed (ran.come _ kept.1)
    (ran.same.config ∙ kept.2) ran.on_track.used
