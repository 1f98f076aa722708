use Rattle.std.proofs.Common.{ℕ, List, ◌≡◌, subst}
use Rattle.group_moves.specs.Moments.{settled_scene}
use Rattle.group_moves.specs.Moves.{begun_scene}
use Rattle.kernel_calls.specs.StateWorld.{sent, world_of}
use Rattle.group_walk.specs.Places.{place_at}
use Rattle.group_walk.specs.Walks.{ComesTo}
use Rattle.group_walk.proofs.Begun.{begin_goes, begin_stops}
use Rattle.group_walk.proofs.Passed.{comes_after}
use Rattle.group_walk.proofs.moving.begin_round.Goals as goal

pub returns-in-Ok-clause-plays : goal.returns-in-Ok-clause-plays
returns-in-Ok-clause-plays g c =
    let opened = c.in-Ok.ensures.opened in
    record {
      goes = begin_goes c.args.quantum c.args.state.now c.requires.sound opened.list
          c.open_round.new.state opened.begins _ _ opened.crosses c.begun.new.state
          (place_at c.begun.result.0 c.open_round.new.starters.items c.begun.result.1)
          (λ o e. subst (λ (xs : List ℕ).
          settled_scene (begun_scene (sent o e (world_of c.args.quantum c.open_round.new.state)))
          ≡ (
            sent o e (world_of c.args.quantum c.begun.new.state),
            place_at c.begun.result.0 xs c.begun.result.1,
          )) c.as_slice.ensures.value
          (c.begun.ensures.begins o e));
      stops = tt;
    }

pub returns-in-Ok-clause-comes : goal.returns-in-Ok-clause-comes
returns-in-Ok-clause-comes g c =
    subst (λ (xs : List ℕ). ComesTo c.args.state.now c.begun.new.state
    (place_at c.begun.result.0 xs c.begun.result.1)) c.as_slice.ensures.value
    (comes_after c.args.state.now c.open_round.new.state c.begun.new.state _
    c.open_round.ensures.count c.open_round.ensures.round.round c.begun.ensures.comes)

pub returns-in-Err-clause-plays : goal.returns-in-Err-clause-plays
returns-in-Err-clause-plays g c =
    let stopped = c.in-Err.ensures.stopped in
    record {
      goes = tt;
      stops = begin_stops c.args.quantum c.args.state.now c.requires.sound c.in-Err.stop
          stopped.reason _ _ stopped.is stopped.stopped;
    }
