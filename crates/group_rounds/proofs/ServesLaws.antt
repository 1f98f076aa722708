-- What a call of the serial phase leaves, by the play that it is; and what one of a round keeps.
use Rattle.std.proofs.Common.{ℕ, ◌-◌, ◌≤◌, ◌≡◌, ◌∙◌, List, false, refl, sym, subst, arith}
use Rattle.std.specs.Prelude.{Result, Ok, Err, IfOk, OnErr, OnOk, is_err}
use Rattle.std.proofs.lemmas.Result.{on_err_weaker, on_ok_weaker}
use Rattle.dos_world.specs.World.{World}
use Rattle.dos_world.specs.Play.{Play, done}
use Rattle.dos_world.specs.declared.Config.{Config}
use Rattle.dos_io.specs.Borders.{BorderState}
use Rattle.kernel_calls.specs.Plays.{PlaysOn}
use Rattle.kernel_calls.specs.StateWorld.{IsSound, StaysInRound, sent, world_of}
use Rattle.kernel_calls.specs.declared.state.RunStop.{RunStop}
use Rattle.kernel_calls.specs.declared.state.State.{State}
use Rattle.kernel_calls.proofs.Playing.{plays_from}
use Rattle.group_rounds.specs.Kernels.{IsBetweenRounds}
use Rattle.group_rounds.specs.Outcomes.{Serves}
use Rattle.group_rounds.specs.Parts.{KeepsCount}
use Rattle.group_rounds.specs.Rounds.{KeepsRound, next_round}
use Rattle.group_rounds.specs.declared.round.RoundEnd.{RoundEnd}
use Rattle.group_rounds.specs.declared.round.RoundEnd.TheVariants.{Went, Done, Stalled}

-- it has come to the end
pub serves_done : {T : Type 0} (value : T) (play : World → Play World) (old new : State)
    (before after : BorderState) → ((q : ℕ) → PlaysOn q play old before (λ w. done w) new after)
    → IsSound new → StaysInRound old new → KeepsCount old new
    → Serves {T = T} play (Ok value) old before new after
serves_done value play old new before after goes sound round count = record {
  plays = λ q. record { goes = goes q; stops = tt };
  sound = sound;
  round = round;
  count = count;
}

-- another play that is the same from this state
pub serves_from : {T : Type 0} (play same : World → Play World) (result : Result T RunStop)
    (old new : State) (before after : BorderState)
    → ((q : ℕ) (o e : List ℕ)
    → play (sent o e (world_of q old)) ≡ same (sent o e (world_of q old)))
    → Serves same result old before new after → Serves play result old before new after
serves_from play same result old new before after is h = record {
  plays = λ q. plays_from q (λ w. w) play same (λ _ w. done w) result old new before after (is q)
      (h.plays q);
  sound = h.sound;
  round = h.round;
  count = h.count;
}

-- what holds of an answer
of_ok : {T E : Type 0} (result : Result T E) (P : Type 0) → OnOk result P
    → is_err result ≡ false → P
of_ok (Ok value) P h ok = h
of_ok (Err stop) P h ok = cc

-- a state between two rounds may stand there after it, where it hasn't stopped
pub serves_between : {T : Type 0} (play : World → Play World) (result : Result T RunStop)
    (old new : State) (config : Config) (before after : BorderState) → IsBetweenRounds old config
    → Serves play result old before new after → is_err result ≡ false → IsBetweenRounds new config
serves_between play result old new config before after between h ok = record {
  sound = of_ok result _ h.sound ok;
  range = between.range;
  rounds = subst (λ (n : ℕ). n - 1 ≤ config.rounds) (sym h.round.round) between.rounds;
  frames = of_ok result _ h.count ok ∙ between.frames;
}

-- ---- rounds

-- nothing was done, and no round was counted
pub keeps_still : (end : RoundEnd) (s : State) → s.round ≡ next_round end s.round → IsSound s
    → KeepsRound (Ok end) s s
keeps_still end s round sound = record {
  sound = sound;
  count = refl;
  round = round;
  uncounted = tt;
  marked = refl;
}

-- behind calls that stayed in the round, and kept as many frames
pub keeps_then : (result : Result RoundEnd RunStop) (old halfway new : State)
    → StaysInRound old halfway → KeepsCount old halfway → KeepsRound result halfway new
    → KeepsRound result old new
keeps_then result old halfway new round count h = record {
  sound = h.sound;
  count = on_ok_weaker result (λ k. k ∙ count) h.count;
  round = subst (λ (n : ℕ). IfOk result (λ end. new.round ≡ next_round end n)) round.round
      h.round;
  uncounted = on_err_weaker result (λ k. k ∙ round.round) h.uncounted;
  marked = h.marked ∙ round.marked;
}

-- the first round's number is 1, and none is less
pub round_follows : (result : Result RoundEnd RunStop) (round next : ℕ)
    → IfOk result (λ end. next ≡ next_round end round) → OnErr result (next ≡ round) → 1 ≤ round
    → 1 ≤ next
round_follows (Ok Went) round next is still first = omega (arith, is)
round_follows (Ok Done) round next is still first = omega (arith, is)
round_follows (Ok Stalled) round next is still first = omega (arith, is)
round_follows (Err stop) round next is still first = omega (arith, still)

-- after a round that may be run, the state may stand between two rounds where it hasn't stopped
pub keeps_between : (result : Result RoundEnd RunStop) (old new : State) (config : Config)
    → IsBetweenRounds old config → old.round ≤ config.rounds → KeepsRound result old new
    → is_err result ≡ false → IsBetweenRounds new config
keeps_between result old new config between limit h ok = record {
  sound = of_ok result _ h.sound ok;
  range = between.range;
  rounds = of_ok result _ (counted result new.round h.round) ok;
  frames = of_ok result _ h.count ok ∙ between.frames;
}
  where
    counted : (r : Result RoundEnd RunStop) (n : ℕ)
        → IfOk r (λ end. n ≡ next_round end old.round) → OnOk r (n - 1 ≤ config.rounds)
    counted (Ok Went) n is = omega (arith, is, limit)
    counted (Ok Done) n is = omega (arith, is, limit)
    counted (Ok Stalled) n is = omega (arith, is, limit)
    counted (Err stop) n is = tt
