use Rattle.std.proofs.Common.{ap, ◌∙◌, false}
use Rattle.recorded_walk.specs.Playbacks.{Played}
use Rattle.recorded_walk.proofs.Places.{stands_there}
use Rattle.recorded_walk.proofs.playback.Playback.go_to.Goals as goal

pub returns-clause-stands : goal.returns-clause-stands
returns-clause-stands c =
    let went = c.in_ok-go_on.ensures in
    let kept = c.self.invariant.6 (ap (λ (p : Played). p.failed) c.self.view_is
    ∙ c.requires.running) in
    stands_there c.self.inside.images.items c.self.inside.config c.go_on.new.self
    c.self.inside.reached false (went.come _ kept.1) (went.same.config ∙ kept.2)
    went.on_track.used
