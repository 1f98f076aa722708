use Rattle.std.proofs.Common.{ap, refl, sym, subst, []}
use Rattle.dos_io.specs.Shims.{HasNoEnd}
use Rattle.shim_log.specs.Replay.{replayer_state}
use Rattle.logged_runs.proofs.Stops.{not_stopped, other_stop, this_stop}
use Rattle.logged_runs.proofs.FromOpening.{is_told}
use Rattle.logged_runs.proofs.Replays.{only, resumed_behind, resumed_cut, resumed_misfit}
use Rattle.logged_runs.proofs.Replays.{same_start}
use Rattle.logged_runs.proofs.Replays.{told_nothing}
use Rattle.logged_runs.proofs.resuming.resume_group.Goals as goal

pub run_group-requires-clause-running : goal.run_group-requires-clause-running
run_group-requires-clause-running g c = λ κs alive. c.requires.running

pub run_group-requires-clause-told : goal.run_group-requires-clause-told
run_group-requires-clause-told g c = λ κs alive.
    subst HasNoEnd (sym (told_nothing _ _ _ c.resume-shim.ensures)) tt

pub returns-in-Ok : goal.returns-in-Ok
returns-in-Ok g c =
    let run = c.in-Ok.ensures in
    record {
      ran = resumed_behind c.args.kernel.now (replayer_state c.resume-shim.result).told
          c.run_group.new.shim _ _ _ _ (told_nothing _ _ _ c.resume-shim.ensures) c.args.log
          c.args.used (same_start _ _ _ _ c.resume-shim.ensures run.follows)
          c.run_group.new.kernel c.in-Ok.ending _ _ run.runs.0 run.runs.1 run.runs.2
          c.len-exchanges.ensures.fits (is_told _ _ _ run.told_end);
      misfit = λ found is. absurd (not_stopped _ _ is);
      cut = tt;
      only = tt;
      sinks = tt;
      out_later = run.causes.out_later;
      out_steady = λ _. run.out_steady (not_stopped _ _);
      err_steady = λ _. run.err_steady (not_stopped _ _);
      err_later = run.causes.err_later;
      fixed = run.fixed;
    }

pub returns : goal.returns
returns g c =
    let run = c.in-Err.ensures in
    let told = told_nothing _ _ _ c.resume-shim.ensures in
    let log = same_start _ _ _ _ c.resume-shim.ensures run.follows in
    record {
      ran = tt;
      misfit = λ found is. resumed_misfit c.args.kernel.now
          (replayer_state c.resume-shim.result).told c.run_group.new.shim _ _ _ _ told c.args.log
          c.args.used log c.in-Err.stop found c.resume-shim.result (this_stop _ _ _ is) run.asks
          run.causes.shim c.look.ensures _ _ run.grew;
      cut = resumed_cut c.args.kernel.now (replayer_state c.resume-shim.result).told
          c.run_group.new.shim _ _ _ _ told c.args.log c.args.used log run.cut _ _ run.grew;
      only = only c.args.kernel.now (replayer_state c.resume-shim.result).told
          c.run_group.new.shim _ _ _ _ told c.in-Err.stop run.asks c.resume-shim.result
          run.causes.shim c.look.ensures;
      sinks = run.causes.sinks;
      out_later = run.causes.out_later;
      out_steady = λ other. run.out_steady (other_stop _ _ _ _ other);
      err_steady = λ other. run.err_steady (other_stop _ _ _ _ other);
      err_later = run.causes.err_later;
      fixed = run.fixed;
    }
