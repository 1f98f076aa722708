use Rattle.std.proofs.Common.{ap}
use Rattle.kernel_calls.proofs.Playing.{plays_told}
use Rattle.group_walk.specs.Places.{place_at}
use Rattle.group_walk.specs.Walks.{Walk}
use Rattle.group_walk.proofs.ManyMoves.{move_there}
use Rattle.group_walk.proofs.Making.{begun_within, gone_on, move_goes, move_stops, moves_here}
use Rattle.group_walk.proofs.Making.{round_within}
use Rattle.group_walk.proofs.Making.{sound_here, there_here, walking_on}
use Rattle.group_walk.proofs.walker.Walker.make.Goals as goal

pub numbers_behind-begun-requires-clause-begun : goal.numbers_behind-begun-requires-clause-begun
numbers_behind-begun-requires-clause-begun g c =
    begun_within c.self.inside c.args.self.now c.self.view_is c.self.invariant.3 c.requires.running
    c.requires.next

pub reach_next-requires-clause-sound : goal.reach_next-requires-clause-sound
reach_next-requires-clause-sound g c =
    sound_here c.self.inside c.args.self.now c.self.view_is c.self.invariant.3 c.requires.running
    c.requires.next

pub reach_next-requires-clause-there : goal.reach_next-requires-clause-there
reach_next-requires-clause-there g c =
    there_here c.self.inside c.args.self.now c.self.view_is c.self.invariant.3 c.requires.running
    c.requires.next

pub reach_next-requires-clause-goes_on : goal.reach_next-requires-clause-goes_on
reach_next-requires-clause-goes_on g c =
    moves_here c.self.inside c.args.self.now c.self.view_is c.self.invariant.3 c.requires.running
    c.requires.next

pub reach_next-requires-clause-limit : goal.reach_next-requires-clause-limit
reach_next-requires-clause-limit g c =
    round_within c.self.inside c.args.self.now c.self.view_is c.self.invariant.3 c.requires.running
    c.requires.next

pub invariant_of-self : goal.invariant_of-self
invariant_of-self g c = (
  c.reach_next.ensures.room,
  c.self.invariant.1,
  c.self.invariant.2,
  λ _.
      walking_on c.self.inside c.args.self.now c.self.view_is c.self.invariant.3
      c.requires.running c.requires.next c.reach_next.new.state c.numbers_behind-begun.result
      c.numbers_behind-begun.ensures
      (place_at c.in-Ok.phase c.reach_next.new.starters.items c.in-Ok.index) c.in-Ok.ensures.comes,
)

pub returns-in-Ok-clause-plays : goal.returns-in-Ok-clause-plays
returns-in-Ok-clause-plays g c = record {
  goes = move_goes c.self.inside c.args.self.now c.self.view_is c.self.invariant.3
      c.requires.running c.requires.next c.reach_next.new.state c.numbers_behind-begun.result
      c.numbers_behind-begun.ensures _ _ (c.in-Ok.phase, c.in-Ok.index)
      c.reach_next.new.starters.items c.in-Ok.ensures.plays;
  stops = tt;
}

pub returns-in-Ok-clause-walked : goal.returns-in-Ok-clause-walked
returns-in-Ok-clause-walked g c =
    move_there c.args.self.now
    (gone_on c.self.inside c.reach_next.new.state
    (place_at c.in-Ok.phase c.reach_next.new.starters.items c.in-Ok.index)
    c.numbers_behind-begun.result) _ _ (ap (λ (w : Walk). w.config) c.self.view_is)
    (move_goes c.self.inside c.args.self.now c.self.view_is c.self.invariant.3
    c.requires.running c.requires.next c.reach_next.new.state c.numbers_behind-begun.result
    c.numbers_behind-begun.ensures _ _ (c.in-Ok.phase, c.in-Ok.index)
    c.reach_next.new.starters.items c.in-Ok.ensures.plays)

pub returns-in-Ok-clause-told : goal.returns-in-Ok-clause-told
returns-in-Ok-clause-told g c =
    plays_told _ _ _ _ _ _ _ c.in-Ok.ensures.plays.goes c.requires.told

pub returns-in-Err-clause-plays : goal.returns-in-Err-clause-plays
returns-in-Err-clause-plays g c = record {
  goes = tt;
  stops = move_stops c.self.inside c.args.self.now c.self.view_is c.self.invariant.3
      c.requires.running c.requires.next c.reach_next.new.state _ _ c.in-Err.stop
      c.reach_next.new.starters.items c.in-Err.ensures.plays;
}
