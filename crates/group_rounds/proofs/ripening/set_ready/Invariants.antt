use Rattle.std.proofs.Common.{◌≡◌, ℕ, List, drop}
use Rattle.dos_world.specs.Signals.{made_ready}
use Rattle.kernel_calls.specs.StateWorld.{IsCounted, sent, world_of}
use Rattle.kernel_calls.specs.StateWorld.{StaysInRound}
use Rattle.group_rounds.specs.Parts.{KeepsCount}
use Rattle.group_rounds.specs.Phases.{AreLive}
use Rattle.group_rounds.proofs.ripening.set_ready.Given as goal

abbrev pub invariant-loop-tid : goal.invariant-loop-tid
invariant-loop-tid l = record {
  sets : (q : ℕ) (o e : List ℕ)
      → made_ready (sent o e (world_of q l.fn.state)) l.fn.threads
      ≡ made_ready (sent o e (world_of q l.state)) (drop l.tid-index l.fn.threads);
  counted : IsCounted l.fn.state → IsCounted l.state;
  round : StaysInRound l.fn.state l.state;
  count : KeepsCount l.fn.state l.state;
  live : AreLive l.state.table.threads l.fn.threads;
}
