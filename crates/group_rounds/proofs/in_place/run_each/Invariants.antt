use Rattle.std.proofs.Common.{◌≡◌, ◌≤◌, ◌+◌, ◌*◌, ◌^◌, ℕ, List, drop}
use Rattle.std.specs.Prelude.{sum_by}
use Rattle.flat_machine.specs.Round.{all_alone}
use Rattle.kernel_calls.specs.StateWorld.{IsSound, sent, world_of}
use Rattle.kernel_calls.specs.StateWorld.{StaysInRound}
use Rattle.group_rounds.specs.Phases.{AreLive}
use Rattle.group_rounds.specs.Parts.{KeepsCount, budget_in}
use Rattle.group_rounds.proofs.in_place.run_each.Given as goal

abbrev pub invariant-loop-tid : goal.invariant-loop-tid
invariant-loop-tid g l = record {
  runs : (q : ℕ) (o e : List ℕ) → all_alone (sent o e (world_of q l.fn.state)) l.fn.starters
      ≡ all_alone (sent o e (world_of q l.state)) (drop l.tid-index l.fn.starters);
  sound : IsSound l.state;
  round : StaysInRound l.fn.state l.state;
  count : KeepsCount l.fn.state l.state;
  live : AreLive l.state.table.threads l.fn.starters;
  paid : sum_by (budget_in l.fn.state) l.fn.starters
      ≡ l.work + sum_by (budget_in l.state) l.fn.starters;
  few : l.work ≤ l.tid-index * 2 ^ 32;
}
