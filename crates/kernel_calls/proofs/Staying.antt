-- States of one round, whose marked owners are the same.
use Rattle.std.proofs.Common.{refl, ◌∙◌}
use Rattle.kernel_calls.specs.StateWorld.{StaysInRound}
use Rattle.kernel_calls.specs.declared.state.State.{State}

pub stays-same : (s : State) → StaysInRound s s
stays-same s = record { round = refl; marked = refl }

-- the later, and before it the first
pub stays-then : {s t u : State} → StaysInRound t u → StaysInRound s t → StaysInRound s u
stays-then later first = record {
  round = later.round ∙ first.round;
  marked = later.marked ∙ first.marked;
}
