-- A replay as far as a round, and the rest from there, are the replay.
use Rattle.std.proofs.Common.{◌≡◌, ℕ, ◌+◌, ◌≤◌, ◌∙◌, List, [], ◌∷◌, ◌++◌, map, length, take, drop}
use Rattle.std.proofs.Common.{Some, refl, sym, ap, subst, arith}
use Rattle.std.proofs.lemmas.List.{length-append, length-take-le, take-append-drop}
use Rattle.std.proofs.Math.Seq.{take-add}
use Rattle.dos_world.specs.World.{World}
use Rattle.dos_world.specs.declared.Config.{Config}
use Rattle.dos_world.specs.declared.Misfit.{Misfit}
use Rattle.dos_world.specs.declared.Scheme.{Scheme}
use Rattle.dos_io.specs.declared.exchange.Exchange.{Exchange}
use Rattle.dos_io.specs.declared.exchange.Exchange.TheVariants.{End}
use Rattle.elf_image.specs.Image.{Image}
use Rattle.flat_machine.specs.Machine.{Seen, run_from}
use Rattle.flat_machine.specs.Opening.{opening}
use Rattle.kernel_calls.specs.StateWorld.{sent}
use Rattle.dpg_run.specs.Fits.{misfit, misfit_from}
use Rattle.dpg_run.specs.Laws.{seen_joined}
use Rattle.dpg_run.proofs.Joining.{runs_join}
use Rattle.log_text.specs.LogText.{Log, exchanges, exchanges_from}
use Rattle.logged_runs.specs.Laws.{ReplaysJoin}
use Rattle.logged_runs.specs.Replaying.{Replayed, ReplayedUntil, config_of, first_work}
use Rattle.logged_runs.specs.Resuming.{ReplayedTo, Resumed, ResumedUntil}
use Rattle.logged_runs.specs.Runs.{RanUntil, RanWhole}

module _ (scheme : Scheme) (images : List Image) (log : Log) (rounds used : ℕ) (reached : World)
    (output error : List ℕ) (work : ℕ)
    (came : ReplayedTo scheme images log rounds used reached output error work) where
  abbrev config : Config
  config = config_of scheme log.header

  abbrev first : List Exchange
  first = take used (exchanges log)

  abbrev rest : List Exchange
  rest = exchanges_from used log

  all : first ++ rest ≡ exchanges log
  all = take-append-drop used (exchanges log)

  count : length first ≡ used
  count = length-take-le used (exchanges log) (omega (
    arith,
    came.few,
    length-append log.entries (End log.ending log.rounds ∷ []),
  ))

  counted : reached.rounds ≡ 0 + rounds
  counted = omega (arith, came.counted)

  few : reached.rounds ≤ config.rounds
  few = omega (arith, came.counted, came.allowed)

  to_end : (seen : Seen) → Resumed reached config used log seen
      → Replayed scheme images log (seen_joined first rest output error came.runs.work seen)
  to_end seen resumed =
      let whole = runs_join.ended (opening images config) reached config rounds first rest output
      error seen came.runs counted few resumed in
      subst (λ es. RanWhole images config es
      (seen_joined first rest output error came.runs.work seen)) all
      (record { fits = whole.fits [] []; is = whole.is [] [] })

  to_misfit : (found : Misfit) (output_then error_then : List ℕ) (work_then : ℕ)
      → ResumedUntil reached config used log found output_then error_then work_then
      → ReplayedUntil scheme images log found (output ++ output_then) (error ++ error_then)
      (first_work scheme found.entry images log)
  to_misfit found output_then error_then work_then until =
      let whole = runs_join.asked (opening images config) reached config rounds first
      (take until.answered rest) found.asked output error output_then error_then came.runs counted
      few until.ran in
      record {
        is = subst (λ es. misfit images config es ≡ Some found) all
            (runs_join.misfits (opening images config) reached config rounds first rest output
            error 0 [] [] came.runs counted few
            ∙ ap (λ n. misfit_from n rest (run_from (sent output error reached) config)) from_used
            ∙ until.is output error);
        ran = subst (λ es. RanUntil images config es found.asked (output ++ output_then)
            (error ++ error_then)) (sym (take-add used until.answered (exchanges log))
            ∙ ap (λ n. take n (exchanges log)) (sym until.place))
            (record { asks = whole.asks [] []; asked = whole.asked [] [] });
        worked = refl;
      }
    where
      from_used : 0 + length first ≡ used
      from_used = omega (arith, count)

pub replays_join : ReplaysJoin
replays_join = record {
  ended = λ scheme images log rounds used reached output error work seen came resumed. (
    came.runs.work,
    to_end scheme images log rounds used reached output error work came seen resumed,
  );
  misfits = λ scheme images log rounds used reached output error work found output_then error_then
      work_then came until. (
        first_work scheme found.entry images log,
        to_misfit scheme images log rounds used reached output error work came found output_then
            error_then work_then until,
      );
}
