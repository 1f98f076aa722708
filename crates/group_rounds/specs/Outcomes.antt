-- What a call of the serial phase leaves. This project's own words.
use Rattle.std.specs.Prelude.{ℕ, Result, OnOk}
use Rattle.dos_world.specs.World.{World}
use Rattle.dos_world.specs.Play.{Play, done}
use Rattle.dos_io.specs.Borders.{BorderState}
use Rattle.kernel_calls.specs.Plays.{Plays}
use Rattle.kernel_calls.specs.StateWorld.{IsSound, StaysInRound}
use Rattle.kernel_calls.specs.declared.state.RunStop.{RunStop}
use Rattle.kernel_calls.specs.declared.state.State.{State}
use Rattle.group_rounds.specs.Parts.{KeepsCount}

-- The call plays this play to its end, in the new state's world; and it stays in the round, and
-- where it answers it keeps a sound state of as many frames.
pub record Serves {T : Type 0} (play : World → Play World) (result : Result T RunStop) (old : State)
    (before : BorderState) (new : State) (after : BorderState) : Type 0 where
  pub plays : (q : ℕ) → Plays q (λ w. w) play (λ _ w. done w) result old before new after
  pub sound : OnOk result (IsSound new)
  pub round : StaysInRound old new
  pub count : OnOk result (KeepsCount old new)
