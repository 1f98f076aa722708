-- The report of a small run, and whether exchanges fit it, computed by the checker.
use Rattle.std.specs.Prelude.{[], ◌∷◌, ◌++◌, Some, None, ◌≡◌, refl, codes}
use Rattle.std.specs.Fmt.{digits}
use Rattle.dos_world.specs.declared.Question.TheVariants.{Signals as signals_question}
use Rattle.dos_world.specs.declared.Question.TheVariants.{Input as input_question}
use Rattle.dos_world.specs.declared.Question.TheVariants.{End as end_question}
use Rattle.dos_world.specs.declared.Ending.TheVariants.{Done, Limit}
use Rattle.dos_io.specs.declared.exchange.Exchange.TheVariants.{Signals, Input, End}
use Rattle.flat_machine.specs.Computing.{computing}
use Rattle.dpg_run.specs.Fits.{Fits, misfit}
use Rattle.dpg_run.specs.Report.{report}
use Rattle.run_examples.proofs.Programs.{with_frames}
use Rattle.run_examples.proofs.Endings.{exits_with_7}

its_exchanges_fit : Fits (exits_with_7 ∷ []) (with_frames 17) (Signals 1 [] ∷ End Done 1 ∷ [])
unfolding computing
its_exchanges_fit = refl

no_misfit : misfit (exits_with_7 ∷ []) (with_frames 17) (Signals 1 [] ∷ End Done 1 ∷ []) ≡ None
unfolding computing
no_misfit = refl

-- the signals of round 2 in place of those of round 1
another_round : misfit (exits_with_7 ∷ []) (with_frames 17) (Signals 2 [] ∷ End Done 1 ∷ [])
    ≡ Some (record { entry = 0; kept = signals_question 2; asked = signals_question 1 })
unfolding computing
another_round = refl

-- an input that the run doesn't ask for
an_input_too_many : misfit (exits_with_7 ∷ []) (with_frames 17)
    (Signals 1 [] ∷ Input 1 1 64 [] ∷ End Done 1 ∷ [])
    ≡ Some (record { entry = 1; kept = input_question 1 1 64; asked = end_question Done 1 })
unfolding computing
an_input_too_many = refl

-- two processes, one of which lives
two_lines_and_the_rounds : report
    (record {
      questions = [];
      output = [];
      error = [];
      statuses = Some 7 ∷ None ∷ [];
      ending =
          Limit;
      rounds = 12;
      work = 0;
    })
    ≡ codes "process 1 status 7" ++ 10 ∷ codes "process 2 live" ++ 10 ∷ codes "rounds 12 limit"
    ++ 10 ∷ []
unfolding digits
two_lines_and_the_rounds = refl
