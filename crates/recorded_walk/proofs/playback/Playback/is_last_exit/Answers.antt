use Rattle.std.proofs.Common.{ap, subst, ◌∙◌}
use Rattle.debug_session.specs.Positions.{Position, position_after}
use Rattle.recorded_walk.specs.Playbacks.{IsLastExit, IsStartOf, Played}
use Rattle.recorded_walk.proofs.Kept.{exit_here}
use Rattle.recorded_walk.proofs.playback.Playback.is_last_exit.Goals as goal

pub returns : goal.returns
returns c ends =
    let kept = c.self.invariant.6 (ap (λ (p : Played). p.failed) c.self.view_is ∙ c.requires) in
    subst (λ (p : Played). (start : Position) → IsStartOf p start
    → IsLastExit (position_after p.moves start)) c.self.view_is
    (exit_here c.self.inside.images.items c.self.inside.config c.self.inside.track
    c.self.inside.reached c.self.inside.failed kept.1 kept.2 (c.is_last_exit.ensures ends))
