use Rattle.std.proofs.Common.{◌+◌, ◌<◌, [], ◌∷◌, length, drop, get_or, sym}
use Rattle.std.proofs.Common.{subst, true, false, Bool, cond}
use Rattle.kernel_calls.specs.StateWorld.{HaveParts, world_of}
use Rattle.group_rounds.proofs.PhaseLaws.{drop_at}
use Rattle.group_walk.proofs.Moved.{rest_there, rest_within, turn_goes, turn_halts}
use Rattle.group_walk.proofs.Passed.{comes_after}
use Rattle.group_walk.proofs.Turned.{rest_on}
use Rattle.group_walk.proofs.moving.turn_next.Goals as goal

pub take_turn-requires-clause-live : goal.take_turn-requires-clause-live
take_turn-requires-clause-live g c =
    let s = c.args.state.now in
    let lt = rest_within s c.args.starters.now c.args.index c.requires.there in
    (rest_there s c.args.starters.now c.args.index lt c.requires.there).0

pub take_turn-requires-clause-ready : goal.take_turn-requires-clause-ready
take_turn-requires-clause-ready g c =
    let s = c.args.state.now in
    let lt = rest_within s c.args.starters.now c.args.index c.requires.there in
    (rest_there s c.args.starters.now c.args.index lt c.requires.there).1.awake.0

pub take_turn-requires-clause-budget : goal.take_turn-requires-clause-budget
take_turn-requires-clause-budget g c =
    let s = c.args.state.now in
    let lt = rest_within s c.args.starters.now c.args.index c.requires.there in
    rest_on (world_of 0 s) _
    ((rest_there s c.args.starters.now c.args.index lt c.requires.there).2 0 [] [])

pub pass_turn-requires-clause-within : goal.pass_turn-requires-clause-within
pass_turn-requires-clause-within g c =
    rest_within c.args.state.now c.args.starters.now c.args.index c.requires.there

pub pass_turn-requires-clause-parts : goal.pass_turn-requires-clause-parts
pass_turn-requires-clause-parts g c =
    let s = c.args.state.now in
    let lt = rest_within s c.args.starters.now c.args.index c.requires.there in
    let parts = (rest_there s c.args.starters.now c.args.index lt c.requires.there).1 in
    go c.in-Ok.goes_on (c.in-Ok.ensures.parts (drop (c.args.index + 1) c.args.starters.now) parts)
    lt
  where
    go : (b : Bool)
        → HaveParts (cond b (get_or c.args.starters.now c.args.index 0
        ∷ drop (c.args.index + 1) c.args.starters.now)
        (drop (c.args.index + 1) c.args.starters.now)) c.take_turn.new.state
        → c.args.index < length c.args.starters.now
        → HaveParts (cond b (drop c.args.index c.args.starters.now)
        (drop (c.args.index + 1) c.args.starters.now)) c.take_turn.new.state
    go true h lt = subst (λ ts. HaveParts ts c.take_turn.new.state)
        (sym (drop_at c.args.starters.now c.args.index lt)) h
    go false h lt = h

pub returns-in-Ok-clause-plays : goal.returns-in-Ok-clause-plays
returns-in-Ok-clause-plays g c = λ q.
    let s = c.args.state.now in
    let lt = rest_within s c.args.starters.now c.args.index c.requires.there in
    record {
      goes = turn_goes c.args.starters.now c.args.index lt s c.take_turn.new.state _ _ q
          c.in-Ok.goes_on (c.in-Ok.ensures.plays q) c.pass_turn.new.state _
          (c.pass_turn.ensures.passes q);
      stops = tt;
    }

pub returns-in-Ok-clause-comes : goal.returns-in-Ok-clause-comes
returns-in-Ok-clause-comes g c =
    comes_after c.args.state.now c.take_turn.new.state c.pass_turn.new.state _
    c.in-Ok.ensures.count c.take_turn.ensures.round c.pass_turn.ensures.comes

pub returns-in-Err-clause-plays : goal.returns-in-Err-clause-plays
returns-in-Err-clause-plays g c = λ q.
    let s = c.args.state.now in
    let lt = rest_within s c.args.starters.now c.args.index c.requires.there in
    record {
      goes = tt;
      stops = (turn_halts c.args.starters.now c.args.index lt s c.take_turn.new.state _ _ q
          c.in-Err.stop (c.in-Err.ensures.plays q)).stops;
    }
