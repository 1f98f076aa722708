use Rattle.std.proofs.Common.{◌≡◌, ℕ, List}
use Rattle.flat_machine.specs.Rest.{settled}
use Rattle.kernel_calls.specs.StateWorld.{HaveParts, IsSound, sent, world_of}
use Rattle.group_rounds.specs.Parts.{KeepsCount}
use Rattle.group_walk.proofs.turns.settle.Given as goal

abbrev pub invariant-loop-left : goal.invariant-loop-left
invariant-loop-left l = record {
  settles : (q : ℕ) (o e : List ℕ) → settled 3 (sent o e (world_of q l.fn.state)) l.fn.tid
      ≡ settled l.left (sent o e (world_of q l.state)) l.fn.tid;
  table : l.state.table ≡ l.fn.state.table;
  sound : IsSound l.state;
  parts : (ts : List ℕ) → HaveParts ts l.fn.state → HaveParts ts l.state;
  round : l.state.round ≡ l.fn.state.round;
  count : KeepsCount l.fn.state l.state;
}

abbrev pub decreases-loop-left : goal.decreases-loop-left
decreases-loop-left l = l.left
