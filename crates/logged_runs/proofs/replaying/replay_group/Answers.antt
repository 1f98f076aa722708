use Rattle.std.proofs.Common.{sym, subst}
use Rattle.dos_io.specs.Shims.{HasNoEnd}
use Rattle.shim_log.specs.Replay.{replayer_state}
use Rattle.logged_runs.proofs.Stops.{not_stopped, other_stop, this_stop}
use Rattle.logged_runs.proofs.FromOpening.{is_told}
use Rattle.logged_runs.proofs.Replays.{only, replayed, replayed_ahead, replayed_until, nothing_told}
use Rattle.logged_runs.proofs.Replays.{from_first, same_log}
use Rattle.logged_runs.proofs.replaying.replay_group.Goals as goal

pub run_group-requires-clause-running : goal.run_group-requires-clause-running
run_group-requires-clause-running g c = λ κs alive. c.requires.running

pub run_group-requires-clause-told : goal.run_group-requires-clause-told
run_group-requires-clause-told g c = λ κs alive.
    subst HasNoEnd (sym (nothing_told _ _ c.new-shim.ensures)) tt

pub returns-in-Ok : goal.returns-in-Ok
returns-in-Ok g c =
    let run = c.in-Ok.ensures in
    record {
      ran = λ scheme images opened. replayed c.args.kernel.now
          (replayer_state c.new-shim.result).told c.run_group.new.shim _ _ _ _ (nothing_told _ _
          c.new-shim.ensures) c.args.log
          (same_log _ _ _ c.new-shim.ensures run.follows)
          (from_first _ _ _ c.new-shim.ensures run.follows) scheme images opened
          c.run_group.new.kernel c.in-Ok.ending _ _ run.runs.0 run.runs.1 run.runs.2
          c.len-exchanges.ensures.fits
          (is_told _ _ _ run.told_end);
      misfit = λ found is. absurd (not_stopped _ _ is);
      cut = tt;
      only = tt;
      sinks = tt;
      out_later = run.causes.out_later;
      out_steady = λ _. run.out_steady (not_stopped _ _);
      err_steady = λ _. run.err_steady (not_stopped _ _);
      err_later = run.causes.err_later;
      fixed = run.fixed;
    }

pub returns : goal.returns
returns g c =
    let run = c.in-Err.ensures in
    let told = nothing_told _ _ c.new-shim.ensures in
    let log = same_log _ _ _ c.new-shim.ensures run.follows in
    let first = from_first _ _ _ c.new-shim.ensures run.follows in
    record {
      ran = tt;
      misfit = λ found is scheme images opened. replayed_until c.args.kernel.now
          (replayer_state c.new-shim.result).told c.run_group.new.shim _ _ _ _ told c.args.log log
          first scheme images opened c.in-Err.stop found c.new-shim.result (this_stop _ _ _ is)
          run.asks run.causes.shim c.look.ensures _ _ run.grew;
      cut = λ scheme images opened. replayed_ahead c.args.kernel.now
          (replayer_state c.new-shim.result).told c.run_group.new.shim _ _ _ _ told c.args.log log
          first scheme images opened run.cut _ _ run.grew;
      only = only c.args.kernel.now (replayer_state c.new-shim.result).told c.run_group.new.shim
          _ _ _ _ told c.in-Err.stop run.asks c.new-shim.result run.causes.shim c.look.ensures;
      sinks = run.causes.sinks;
      out_later = run.causes.out_later;
      out_steady = λ other. run.out_steady (other_stop _ _ _ _ other);
      err_steady = λ other. run.err_steady (other_stop _ _ _ _ other);
      err_later = run.causes.err_later;
      fixed = run.fixed;
    }
