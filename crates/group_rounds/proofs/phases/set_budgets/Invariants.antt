use Rattle.std.proofs.Common.{◌≡◌, ℕ, List, drop}
use Rattle.flat_machine.specs.Round.{with_budgets}
use Rattle.kernel_calls.specs.StateWorld.{HaveParts, IsSound, sent, world_of}
use Rattle.kernel_calls.specs.StateWorld.{StaysInRound}
use Rattle.group_rounds.specs.Phases.{AreLive}
use Rattle.group_rounds.specs.Parts.{KeepsCount}
use Rattle.group_rounds.proofs.phases.set_budgets.Given as goal

abbrev pub invariant-loop-tid : goal.invariant-loop-tid
invariant-loop-tid l = record {
  sets : (o e : List ℕ) → with_budgets (sent o e (world_of l.fn.quantum l.fn.state)) l.fn.starters
      ≡ with_budgets (sent o e (world_of l.fn.quantum l.state)) (drop l.tid-index l.fn.starters);
  sound : IsSound l.state;
  parts : (ts : List ℕ) → HaveParts ts l.fn.state → HaveParts ts l.state;
  round : StaysInRound l.fn.state l.state;
  count : KeepsCount l.fn.state l.state;
  live : AreLive l.state.table.threads l.fn.starters;
}
