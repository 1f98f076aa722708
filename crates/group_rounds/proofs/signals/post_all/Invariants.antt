use Rattle.std.proofs.Common.{◌≡◌, ℕ, List, drop}
use Rattle.dos_world.specs.Signals.{all_posted}
use Rattle.kernel_calls.specs.StateWorld.{IsSound, sent, world_of}
use Rattle.kernel_calls.specs.StateWorld.{StaysInRound}
use Rattle.group_rounds.specs.Parts.{KeepsCount}
use Rattle.group_rounds.proofs.signals.post_all.Given as goal

abbrev pub invariant-loop-index : goal.invariant-loop-index
invariant-loop-index l = record {
  posts : (q : ℕ) (o e : List ℕ) → all_posted (sent o e (world_of q l.fn.state)) l.list
      ≡ all_posted (sent o e (world_of q l.state)) (drop l.index l.list);
  sound : IsSound l.state;
  round : StaysInRound l.fn.state l.state;
  count : KeepsCount l.fn.state l.state;
}
