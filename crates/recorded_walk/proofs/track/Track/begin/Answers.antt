use Rattle.std.proofs.Common.{refl, ap}
use Rattle.shim_log.specs.Replay.{ReplayState}
use Rattle.recorded_walk.proofs.Coming.{has_begun}
use Rattle.recorded_walk.proofs.track.Track.begin.Goals as goal

pub returns-in-Ok-clause-come : goal.returns-in-Ok-clause-come
returns-in-Ok-clause-come c =
    has_begun c.args.images.now c.args.config c.in-Ok.kernel _ c.in-Ok.ensures.opens
    c.begin.ensures.first (ap (λ (p : ReplayState). p.start) c.new.ensures)
    (ap (λ (p : ReplayState). p.answered) c.new.ensures) refl
