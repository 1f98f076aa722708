-- The causes of a call that played, and the question at which it stopped.
use Rattle.std.proofs.Common.{◌≡◌, ◌≤◌, ℕ, Ok, Err, Some, refl, sym, ap, subst, le_refl, ◌∙◌}
use Rattle.std.specs.Prelude.{OnSome, false}
use Rattle.dos_world.specs.World.{World}
use Rattle.dos_world.specs.Play.{Play}
use Rattle.dos_world.specs.declared.Question.{Question}
use Rattle.dos_world.specs.declared.Question.TheVariants.{Signals, Input, Clock, End}
use Rattle.dos_io.specs.Borders.{BorderState, BorderStands, ShimFails, SinkFails}
use Rattle.dos_io.specs.declared.border.Stream.TheVariants.{Output, Error}
use Rattle.dos_io.specs.declared.shim.ShimStop.{ShimStop}
use Rattle.kernel_calls.specs.Plays.{IsBeforeEnd, StopsAsking, Stopper, StopsIn, by_shim, by_sink}
use Rattle.kernel_calls.specs.Plays.{stopper}
use Rattle.kernel_calls.specs.StateWorld.{shim_stop}
use Rattle.kernel_calls.specs.declared.state.RunStop.{RunStop}
use Rattle.kernel_calls.specs.declared.state.RunStop.TheVariants.{HostFault, LogFull, Misfit}
use Rattle.kernel_calls.specs.declared.state.RunStop.TheVariants.{OutFault, ErrFault, Memory}
use Rattle.kernel_calls.specs.declared.state.State.{State}
use Rattle.group_rounds.specs.Outside.{HaveCauses, is_end_question}

no_less : (n m : ℕ) → m ≡ n → n ≤ m
no_less n m is = subst (λ k. n ≤ k) (sym is) (le_refl n)

-- who failed
abbrev pub Fails : Stopper → (before after : BorderState) → Type 0
Fails (by_shim why) before after = ShimFails before why after
Fails (by_sink stream) before after = SinkFails before stream after

pub fails_of : {A : Type 0} (q : ℕ) (world : A → World) (play : World → Play A) (by : Stopper)
    (s : State) (before after : BorderState) → StopsIn q world play by s before after
    → Fails by before after
fails_of q world play (by_shim why) s before after h = h.fails
fails_of q world play (by_sink stream) s before after h = h.fails

module _ {T : Type 0} (before after : BorderState) where
  pub causes_ok : (value : T) → BorderStands before after
      → HaveCauses {T = T} (Ok value) before.shim after.shim before.out_faults after.out_faults
      before.err_faults after.err_faults
  causes_ok value h = record {
    out_later = no_less _ _ (h.faults Output);
    err_later = no_less _ _ (h.faults Error);
    shim = tt;
    stands = record { stops = h.shim.stops; last = h.shim.last };
    sinks = tt;
  }

  pub causes_err : (stop : RunStop) → Fails (stopper stop) before after
      → HaveCauses {T = T} (Err stop) before.shim after.shim before.out_faults after.out_faults
      before.err_faults after.err_faults
  causes_err HostFault h = record {
    out_later = no_less _ _ (h.faults Output);
    err_later = no_less _ _ (h.faults Error);
    shim = (h.stops, h.last);
    stands = tt;
    sinks = tt;
  }
  causes_err LogFull h = record {
    out_later = no_less _ _ (h.faults Output);
    err_later = no_less _ _ (h.faults Error);
    shim = (h.stops, h.last);
    stands = tt;
    sinks = tt;
  }
  causes_err (Misfit m) h = record {
    out_later = no_less _ _ (h.faults Output);
    err_later = no_less _ _ (h.faults Error);
    shim = (h.stops, h.last);
    stands = tt;
    sinks = tt;
  }
  causes_err Memory h = record {
    out_later = no_less _ _ (h.faults Output);
    err_later = no_less _ _ (h.faults Error);
    shim = (h.stops, h.last);
    stands = tt;
    sinks = tt;
  }
  causes_err OutFault h = record {
    out_later = h.later;
    err_later = no_less _ _ (h.others Error (λ same. cc));
    shim = record { stops = h.shim.stops; last = h.shim.last };
    stands = tt;
    sinks = h.rose;
  }
  causes_err ErrFault h = record {
    out_later = no_less _ _ (h.others Output (λ same. cc));
    err_later = h.later;
    shim = record { stops = h.shim.stops; last = h.shim.last };
    stands = tt;
    sinks = h.rose;
  }

-- what holds where the shim stopped
pub by_question : {A : Type 0} (q : ℕ) (world : A → World) (play : World → Play A) (s : State)
    (before after : BorderState) (P : Type 0)
    → ((why : ShimStop) → StopsAsking q play why s before after → P)
    → (stop : RunStop) → StopsIn q world play (stopper stop) s before after
    → OnSome (shim_stop stop) P
by_question q world play s before after P holds HostFault h = holds _ h
by_question q world play s before after P holds LogFull h = holds _ h
by_question q world play s before after P holds (Misfit m) h = holds _ h
by_question q world play s before after P holds Memory h = holds _ h
by_question q world play s before after P holds OutFault h = tt
by_question q world play s before after P holds ErrFault h = tt

-- its question isn't that of the run's end
pub asks_before_end : {A : Type 0} (q : ℕ) (world : A → World) (play : World → Play A) (s : State)
    (before after : BorderState) (stop : RunStop)
    → StopsIn q world play (stopper stop) s before after
    → OnSome (shim_stop stop) (is_end_question after.shim.asked ≡ false)
asks_before_end q world play s before after stop h =
    by_question q world play s before after _
    (λ why asks. ap is_end_question asks.asked ∙ no_end asks.question asks.running) stop h
  where
    no_end : (question : Question) → IsBeforeEnd question → is_end_question (Some question) ≡ false
    no_end (Signals round) h = refl
    no_end (Input round tid max) h = refl
    no_end (Clock round tid) h = refl
    no_end (End ending rounds) h = absurd h
