use Rattle.std.proofs.Common.{length, ◌-◌, ◌≡◌, ℕ, List, drop}
use Rattle.group_moves.specs.Places.{to_parts}
use Rattle.kernel_calls.specs.StateWorld.{HaveParts, IsSound, sent, world_of}
use Rattle.group_rounds.specs.Parts.{KeepsCount}
use Rattle.group_rounds.specs.Phases.{AreLive}
use Rattle.group_walk.proofs.passing.pass_parts.Given as goal

abbrev pub invariant-loop-index : goal.invariant-loop-index
invariant-loop-index l = record {
  passes : (q : ℕ) (o e : List ℕ)
      → to_parts (sent o e (world_of q l.fn.state)) l.starters (drop l.fn.from l.starters)
      ≡ to_parts (sent o e (world_of q l.state)) l.starters (drop l.index l.starters);
  sound : IsSound l.state;
  live : AreLive l.state.table.threads (drop l.index l.starters);
  parts : HaveParts l.starters l.state;
  round : l.state.round ≡ l.fn.state.round;
  count : KeepsCount l.fn.state l.state;
}

abbrev pub decreases-loop-index : goal.decreases-loop-index
decreases-loop-index l = length l.starters - l.index
