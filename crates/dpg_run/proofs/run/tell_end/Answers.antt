use Rattle.std.proofs.Common.{◌∙◌, sym, ap, subst, [], ◌∷◌, ◌++◌, Some, append-nil}
use Rattle.dos_world.specs.declared.Question.TheVariants.{End as end_question}
use Rattle.dos_io.specs.declared.border.Stream.TheVariants.{Output, Error}
use Rattle.dos_io.specs.declared.exchange.Exchange.TheVariants.{End}
use Rattle.dos_io.proofs.OutsideLaws.{grown-nothing}
use Rattle.kernel_calls.proofs.ServicePlays.{stopped_by}
use Rattle.kernel_calls.proofs.Playing.{shim_fails_then, stands_then}
use Rattle.group_rounds.proofs.PlayCauses.{Fails, causes_err, causes_ok}
use Rattle.kernel_calls.specs.StateWorld.{world_of}
use Rattle.group_rounds.specs.Rounds.{answers_since}
use Rattle.dpg_run.specs.Work.{work_from}
use Rattle.dpg_run.proofs.RoundsRun.{end_told, end_stops, end_cut, grew_by, ran_rounds}
use Rattle.dpg_run.proofs.RoundsRun.{stands_at_end}
use Rattle.dpg_run.proofs.SteadySinks.{err_stands, out_stands}
use Rattle.dpg_run.proofs.run.tell_end.Goals as goal

pub end-requires : goal.end-requires
end-requires g c = c.requires

pub returns-in-Ok : goal.returns-in-Ok
returns-in-Ok g c =
    let s = c.args.kernel.now.state in
    let crosses = c.in-Ok.ensures.ok in
    let told_is = crosses.tells.exchanges
    ∙ ap (λ n. (g.B.Border.state c.args.border.now).shim.told ++ End c.args.ending n ∷ [])
    c.rounds.ensures in
    record {
      runs = λ config start before tally tally_after running rounds.
          let stands = stands_then _ _ _ rounds.plays.goes.stands crosses.stands in
          record {
            runs = (
              rounds.work,
              end_told config start s _ _ c.args.ending rounds.work
                  (ran_rounds config start s before (g.B.Border.state c.args.border.now)
                  c.args.ending rounds.work rounds.plays.goes) _ told_is
                  (crosses.tells.bytes Output ∙ sym (grown-nothing _))
                  (crosses.tells.bytes Error ∙ sym (grown-nothing _)),
              rounds.grew,
            );
            asks = tt;
            cut = tt;
            grew = tt;
            told_end = record {
              before = (g.B.Border.state c.args.border.now).shim.told;
              told_is = told_is;
              running = c.requires;
            };
            failed = running;
            causes = causes_ok _ _ _ stands;
            out_steady = λ _. stands.faults Output;
            err_steady = λ _. stands.faults Error;
          };
      more = (End c.args.ending c.rounds.result ∷ [], crosses.tells.exchanges);
      follows = c.end.ensures.follows;
    }

pub returns-in-Err : goal.returns-in-Err
returns-in-Err g c =
    let s = c.args.kernel.now.state in
    let stop = c.in-Err.ensures.err in
    record {
      runs = λ config start before tally tally_after running rounds.
          let ran = ran_rounds config start s before (g.B.Border.state c.args.border.now)
          c.args.ending rounds.work rounds.plays.goes in
          let fails = subst (λ by. Fails by before (g.B.Border.state c.end.new.self))
          (sym (stopped_by c.run_stop.result c.in-Err.stop c.run_stop.ensures))
          (shim_fails_then _ _ _ c.in-Err.stop rounds.plays.goes.stands (record {
            stops = stop.shim.stops;
            last = stop.shim.last;
            faults = stop.faults;
          })) in
          record {
            runs = tt;
            asks = rw c.run_stop.ensures (end_stops config start s _ _ c.args.ending rounds.work
                ran _ _ stop.shim.told (stop.told Output) (stop.told Error)
                (stop.shim.asked ∙ ap (λ n. Some (end_question c.args.ending n))
                c.rounds.ensures));
            cut = end_cut config start s _ _ c.args.ending rounds.work ran _ stop.shim.told
                (stop.told Output) (stop.told Error);
            grew = grew_by config start before (g.B.Border.state c.end.new.self) tally tally_after
                rounds.work
                (ap (λ told. work_from (world_of config.quantum start) config
                (answers_since before.shim.told told)) stop.shim.told ∙ rounds.worked)
                rounds.grew;
            told_end = tt;
            failed = stands_at_end _ c.in-Err.stop _ _ _ _ running c.run_stop.ensures
                stop.shim.asked;
            causes = causes_err _ _ c.run_stop.result fails;
            out_steady = out_stands _ _ c.run_stop.result fails;
            err_steady = err_stands _ _ c.run_stop.result fails;
          };
      more = ([], stop.shim.told ∙ sym (append-nil _));
      follows = c.end.ensures.follows;
    }
