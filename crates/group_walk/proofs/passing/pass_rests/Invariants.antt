use Rattle.std.proofs.Common.{length, ◌-◌, ◌≡◌, ℕ, List, drop}
use Rattle.group_moves.specs.Places.{to_rests}
use Rattle.kernel_calls.specs.StateWorld.{HaveParts, IsSound, sent, world_of}
use Rattle.group_rounds.specs.Parts.{KeepsCount}
use Rattle.group_walk.proofs.passing.pass_rests.Given as goal

abbrev pub invariant-loop-index : goal.invariant-loop-index
invariant-loop-index l = record {
  passes : (q : ℕ) (o e : List ℕ)
      → to_rests (sent o e (world_of q l.fn.state)) l.starters (drop l.fn.from l.starters)
      ≡ to_rests (sent o e (world_of q l.state)) l.starters (drop l.index l.starters);
  sound : IsSound l.state;
  parts : HaveParts (drop l.index l.starters) l.state;
  round : l.state.round ≡ l.fn.state.round;
  count : KeepsCount l.fn.state l.state;
}

abbrev pub decreases-loop-index : goal.decreases-loop-index
decreases-loop-index l = length l.starters - l.index
