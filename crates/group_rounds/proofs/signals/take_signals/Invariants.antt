use Rattle.std.proofs.Common.{◌≡◌, ℕ, List, drop}
use Rattle.dos_world.specs.Signals.{signal_turns}
use Rattle.kernel_calls.specs.StateWorld.{IsSound, sent, world_of}
use Rattle.kernel_calls.specs.StateWorld.{StaysInRound}
use Rattle.group_rounds.specs.Parts.{KeepsCount}
use Rattle.group_rounds.proofs.signals.take_signals.Given as goal

abbrev pub invariant-loop-tid : goal.invariant-loop-tid
invariant-loop-tid l = record {
  takes : (q : ℕ) (o e : List ℕ)
      → signal_turns (sent o e (world_of q l.fn.state)) l.fn.threads
      ≡ signal_turns (sent o e (world_of q l.state)) (drop l.tid-index l.fn.threads);
  sound : IsSound l.state;
  round : StaysInRound l.fn.state l.state;
  count : KeepsCount l.fn.state l.state;
}
