use Rattle.std.proofs.Common.{ap, ◌∙◌}
use Rattle.recorded_walk.specs.Playbacks.{Played}
use Rattle.recorded_walk.proofs.Places.{stands_there}
use Rattle.group_walk.specs.Walks.{Walk}
use Rattle.recorded_walk.proofs.Kept.{come_still, kept_still, on_ok, track_still}
use Rattle.recorded_walk.proofs.playback.Playback.come_back.Goals as goal

pub invariant_of-self : goal.invariant_of-self
invariant_of-self c =
    kept_still c.self.inside.images.items c.self.inside.config c.self.inside.track
    c.hear_nothing.new.self c.self.inside.reached c.self.inside.last c.self.inside.misfit
    c.self.inside.entries c.self.inside.failed
    (record {
      walker = c.hear_nothing.ensures.walker;
      shim = c.hear_nothing.ensures.shim;
      moves = c.hear_nothing.ensures.moves;
    }) c.self.invariant

pub returns-clause-stands : goal.returns-clause-stands
returns-clause-stands c = on_ok c.come_again-came.result _ (λ fine.
    let kept = c.self.invariant.6 (ap (λ (p : Played). p.failed) c.self.view_is
    ∙ c.come_again-came.ensures.failed ∙ fine) in
    stands_there c.self.inside.images.items c.self.inside.config c.hear_nothing.new.self
    c.self.inside.reached c.self.inside.failed (come_still _ c.self.inside.track
    c.hear_nothing.new.self (record {
      walker = c.hear_nothing.ensures.walker;
      shim = c.hear_nothing.ensures.shim;
      moves = c.hear_nothing.ensures.moves;
    }) kept.1) (ap (λ (w : Walk). w.config) c.hear_nothing.ensures.walker ∙ kept.2)
    (track_still c.self.inside.track c.hear_nothing.new.self (record {
      walker = c.hear_nothing.ensures.walker;
      shim = c.hear_nothing.ensures.shim;
      moves = c.hear_nothing.ensures.moves;
    }) kept.0).used)
