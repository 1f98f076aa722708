use Rattle.std.proofs.Common.{◌≡◌, ◌+◌, ◌∙◌, ap, subst}
use Rattle.group_walk.specs.Stretches.{HasGoneOn}
use Rattle.group_walk.specs.Walks.{Walk}
use Rattle.recorded_walk.proofs.Kept.{come_still}
use Rattle.recorded_walk.proofs.Stretching.{come_run, has_not_run}
use Rattle.recorded_walk.proofs.track.Track.run_on.Goals as goal

pub returns-then-self-ge-MOST_MOVES-clause-runs : goal.returns-then-self-ge-MOST_MOVES-clause-runs
returns-then-self-ge-MOST_MOVES-clause-runs c =
    has_not_run c.args.stops.now c.args.kept.now c.args.self.now.walker
    c.hear_nothing.new.self.walker
    c.hear_nothing.ensures.walker

pub returns-then-self-ge-MOST_MOVES-clause-come : goal.returns-then-self-ge-MOST_MOVES-clause-come
returns-then-self-ge-MOST_MOVES-clause-come c = λ first.
    come_still first c.args.self.now c.hear_nothing.new.self (record {
      walker = c.hear_nothing.ensures.walker;
      shim = c.hear_nothing.ensures.shim;
      moves = c.hear_nothing.ensures.moves;
    })

pub returns-clause-runs : goal.returns-clause-runs
returns-clause-runs c =
    subst (λ (w : Walk). HasGoneOn c.args.stops.now c.args.kept.now c.run_on-count.result w
    c.run_on-count.new.self)
    c.hear_nothing.ensures.walker c.run_on-count.ensures.runs

pub returns-clause-come : goal.returns-clause-come
returns-clause-come c = λ first.
    let run = subst (λ (w : Walk). HasGoneOn c.args.stops.now c.args.kept.now
    c.run_on-count.result w c.run_on-count.new.self) c.hear_nothing.ensures.walker
    c.run_on-count.ensures.runs in
    let config = c.run_on-count.ensures.config
    ∙ ap (λ (w : Walk). w.config) c.hear_nothing.ensures.walker in
    let moves : c.hear_nothing.new.self.moves + c.from.result
    ≡ c.args.self.now.moves + c.run_on-count.result =
    ap (λ n. n + c.from.result) c.hear_nothing.ensures.moves
    ∙ ap (λ n. c.args.self.now.moves + n) c.from.ensures in
    come_run first c.args.stops.now c.args.kept.now c.run_on-count.result c.args.self.now (record {
      walker = c.run_on-count.new.self;
      shim = c.hear_nothing.new.self.shim;
      out = c.hear_nothing.new.self.out;
      err = c.hear_nothing.new.self.err;
      moves = c.hear_nothing.new.self.moves + c.from.result;
    }) run config c.hear_nothing.ensures.shim moves
