use Rattle.std.proofs.Common.{refl, ap, ◌∙◌}
use Rattle.group_walk.specs.Walks.{moment_of}
use Rattle.shim_log.specs.Replay.{ReplayState}
use Rattle.recorded_walk.proofs.Coming.{has_begun}
use Rattle.recorded_walk.proofs.track.Track.begin_again.Goals as goal

pub returns-in-Ok-clause-come : goal.returns-in-Ok-clause-come
returns-in-Ok-clause-come c =
    has_begun c.args.images.now c.args.config c.in-Ok.kernel (record {
      walker = c.replace.new.dest;
      shim = c.restart.new.self;
      out = c.args.self.now.out;
      err = c.args.self.now.err;
      moves = 0;
    }) c.in-Ok.ensures.opens (ap moment_of c.replace.ensures.after ∙ c.begin.ensures.first)
    (ap (λ (p : ReplayState). p.start) c.restart.ensures ∙ c.requires.whole)
    (ap (λ (p : ReplayState). p.answered) c.restart.ensures) refl
