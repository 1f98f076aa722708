-- Exchanges of runs that stall, that a signal ends and that the limit ends: that they fit, and that
-- another ending doesn't. Computed by the checker.
use Rattle.std.specs.Prelude.{[], ◌∷◌, Some, ◌≡◌, refl}
use Rattle.dos_world.specs.declared.Question.TheVariants.{End as end_question}
use Rattle.dos_world.specs.declared.Ending.TheVariants.{Done, Limit, Stalled}
use Rattle.dos_world.specs.declared.Scheme.TheVariants.{Ownership}
use Rattle.dos_io.specs.declared.exchange.Exchange.TheVariants.{Signals, End}
use Rattle.flat_machine.specs.Computing.{computing}
use Rattle.flat_machine.specs.Machine.{run_from}
use Rattle.dpg_run.specs.Fits.{Fits, FitsFrom, misfit_from}
use Rattle.flat_machine.specs.Opening.{opening}
use Rattle.run_examples.proofs.Programs.{program, with_frames}
use Rattle.run_examples.proofs.Threads.{sleeps}

-- a run that stalls
a_stalled_run_fits : FitsFrom (opening (sleeps ∷ []) (with_frames 17)) (with_frames 17)
    (Signals 1 [] ∷ Signals 2 [] ∷ End Stalled 1 ∷ [])
unfolding computing
a_stalled_run_fits = refl

-- a run that a signal ends; another ending doesn't fit
a_signalled_run_fits : FitsFrom (opening (sleeps ∷ []) (with_frames 17)) (with_frames 17)
    (Signals 1 [] ∷ Signals 2 (record { pid = 1; signal = 15 } ∷ []) ∷ End Done 1 ∷ [])
unfolding computing
a_signalled_run_fits = refl

another_ending : misfit_from 0
    (Signals 1 [] ∷ Signals 2 (record { pid = 1; signal = 15 } ∷ []) ∷ End Stalled 1 ∷ [])
    (run_from (opening (sleeps ∷ []) (with_frames 17)) (with_frames 17))
    ≡ Some (record { entry = 2; kept = end_question Stalled 1; asked = end_question Done 1 })
unfolding computing
another_ending = refl

-- a run that its limit ends
a_limited_run_fits : Fits (program (0x0000006F ∷ []) ∷ [])
    (record { quantum = 1000; rounds = 1; frames = 17; scheme = Ownership })
    (Signals 1 [] ∷ End Limit 1 ∷ [])
unfolding computing
a_limited_run_fits = refl
