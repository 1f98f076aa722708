use Rattle.std.proofs.Common.{ℕ, List, drop, subst, sym, Ok}
use Rattle.dos_world.specs.Play.{done}
use Rattle.kernel_calls.specs.Plays.{Plays}
use Rattle.kernel_calls.proofs.Playing.{plays_still}
use Rattle.group_walk.specs.Places.{at_part, at_rest, place_at}
use Rattle.group_walk.specs.Plays.{settled_move, world_of_scene}
use Rattle.group_walk.specs.Walks.{ComesTo}
use Rattle.group_walk.specs.declared.walker.Phase.{Phase}
use Rattle.group_walk.proofs.moving.reach_next.Goals as goal

pub returns-in-Parallel-clause-plays : goal.returns-in-Parallel-clause-plays
returns-in-Parallel-clause-plays g c =
    subst (λ (p : Phase). Plays c.args.quantum world_of_scene
    (settled_move (place_at p c.args.starters.now.items c.args.index))
    (λ (x : Phase × ℕ) w. done (w, place_at x.0 c.args.starters.now.items x.1))
    (Ok c.run_next.result) c.args.state.now (g.B.Border.state c.args.border.now)
    c.run_next.new.state (g.B.Border.state c.args.border.now)) (sym c.in-Parallel.is)
    (subst (λ (xs : List ℕ). Plays c.args.quantum world_of_scene
    (settled_move (at_part xs (drop c.args.index xs)))
    (λ (x : Phase × ℕ) w. done (w, place_at x.0 xs x.1)) (Ok c.run_next.result)
    c.args.state.now (g.B.Border.state c.args.border.now) c.run_next.new.state
    (g.B.Border.state c.args.border.now)) c.as_slice.ensures.value
    (record {
      goes = plays_still c.args.quantum
          (settled_move (at_part c.as_slice.result.now (drop c.args.index c.as_slice.result.now)))
          (λ w. done (
            w,
            place_at c.run_next.result.0 c.as_slice.result.now
                c.run_next.result.1,
          )) c.args.state.now c.run_next.new.state
          (g.B.Border.state c.args.border.now) (λ o e. c.run_next.ensures.moves c.args.quantum o e);
      stops = tt;
    }))

pub returns-in-Serial-clause-plays : goal.returns-in-Serial-clause-plays
returns-in-Serial-clause-plays g c =
    subst (λ (p : Phase). Plays c.args.quantum world_of_scene
    (settled_move (place_at p c.args.starters.now.items c.args.index))
    (λ (x : Phase × ℕ) w. done (w, place_at x.0 c.args.starters.now.items x.1))
    c.turn_next.result c.args.state.now (g.B.Border.state c.args.border.now)
    c.turn_next.new.state (g.B.Border.state c.turn_next.new.border)) (sym c.in-Serial.is)
    (subst (λ (xs : List ℕ). Plays c.args.quantum world_of_scene
    (settled_move (at_rest xs (drop c.args.index xs)))
    (λ (x : Phase × ℕ) w. done (w, place_at x.0 xs x.1)) c.turn_next.result
    c.args.state.now (g.B.Border.state c.args.border.now) c.turn_next.new.state
    (g.B.Border.state c.turn_next.new.border)) c.as_slice-in-Serial.ensures.value
    (c.turn_next.ensures.plays c.args.quantum))

pub returns-in-Parallel-clause-comes : goal.returns-in-Parallel-clause-comes
returns-in-Parallel-clause-comes g c =
    subst (λ (xs : List ℕ). ComesTo c.args.state.now c.run_next.new.state
    (place_at c.run_next.result.0 xs c.run_next.result.1)) c.as_slice.ensures.value
    c.run_next.ensures.comes
