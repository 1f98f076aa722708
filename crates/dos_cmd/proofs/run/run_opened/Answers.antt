use Rattle.std.proofs.Common.{le_refl, le_trans, refl, ◌∙◌}
use Rattle.logged_runs.specs.Recording.{host_seen}
use Rattle.dos_cmd.specs.Outside.{Outside, Faults, outside, faults}
use Rattle.dos_cmd.proofs.Asked.{later_stop, not_asked}
use Rattle.dos_cmd.proofs.RunEnds.{is_err_of, run_stopped, run_unended, run_did}
use Rattle.dos_cmd.proofs.Steady.{host_steady, no_stop, outputs_steady}
use Rattle.dos_cmd.proofs.run.run_opened.Goals as goal

pub returns-in-Err : goal.returns-in-Err
returns-in-Err g c = record {
  did = tt;
  leaves = let run = c.in-Err.ensures in
      let o : Outside = outside (g.F.Files.tells c.args.files.now)
      (g.F.Files.content c.args.files.now) (g.F.Files.content c.args.files.now)
      (host_seen (g.H.Host.told c.args.host.now) (g.H.Host.asked c.args.host.now))
      (host_seen (g.H.Host.told c.record_group.new.host)
      (g.H.Host.asked c.record_group.new.host))
      (g.O.Sink.told c.args.out.now) (g.O.Sink.told c.record_group.new.out)
      (g.E.Sink.told c.args.err.now) (g.E.Sink.told c.record_group.new.err)
      (g.W.Workers.tally c.args.workers.now) (g.W.Workers.tally c.record_group.new.workers) in
      let f : Faults = faults (g.F.Files.faults c.args.files.now)
      (g.F.Files.faults c.args.files.now) (g.H.Host.faults c.args.host.now)
      (g.H.Host.faults c.record_group.new.host) (g.O.Sink.faults c.args.out.now)
      (g.O.Sink.faults c.record_group.new.out) (g.E.Sink.faults c.args.err.now)
      (g.E.Sink.faults c.record_group.new.err) in
      run_stopped o f c.args.kernel.now c.args.ledger c.args.name.now c.in-Err.stop _
      c.refusal_by.ensures run.stopped run.cut (λ e. run.host_cause (is_err_of _ _ e)) run.sinks
      (λ n. refl);
  asked = not_asked c.args.name.now _ _ (later_stop c.in-Err.stop _ c.refusal_by.ensures);
  files_later = le_refl _;
  host_later = c.in-Err.ensures.host_later;
  host_steady = host_steady c.in-Err.stop _ _ _ c.refusal_by.ensures c.in-Err.ensures.host_steady;
  out_later = c.in-Err.ensures.out_later;
  err_later = c.in-Err.ensures.err_later;
  out_steady = λ other. (outputs_steady c.in-Err.stop _ _ _ _ _ c.refusal_by.ensures
      c.in-Err.ensures.out_steady c.in-Err.ensures.err_steady other).0;
  err_steady = λ other. (outputs_steady c.in-Err.stop _ _ _ _ _ c.refusal_by.ensures
      c.in-Err.ensures.out_steady c.in-Err.ensures.err_steady other).1;
  fixed = c.in-Err.ensures.fixed;
}

pub returns-in-Ok : goal.returns-in-Ok
returns-in-Ok g c =
    let run = c.in-Ok.ensures in
    let o : Outside = outside (g.F.Files.tells c.args.files.now)
    (g.F.Files.content c.args.files.now) (g.F.Files.content c.conclude.new.files)
    (host_seen (g.H.Host.told c.args.host.now) (g.H.Host.asked c.args.host.now))
    (host_seen (g.H.Host.told c.record_group.new.host)
    (g.H.Host.asked c.record_group.new.host))
    (g.O.Sink.told c.args.out.now) (g.O.Sink.told c.record_group.new.out)
    (g.E.Sink.told c.args.err.now) (g.E.Sink.told c.conclude.new.err)
    (g.W.Workers.tally c.args.workers.now) (g.W.Workers.tally c.record_group.new.workers) in
    let f : Faults = faults (g.F.Files.faults c.args.files.now)
    (g.F.Files.faults c.conclude.new.files) (g.H.Host.faults c.args.host.now)
    (g.H.Host.faults c.record_group.new.host) (g.O.Sink.faults c.args.out.now)
    (g.O.Sink.faults c.record_group.new.out) (g.E.Sink.faults c.args.err.now)
    (g.E.Sink.faults c.conclude.new.err) in
    record {
      did = run_did o c.args.kernel.now c.record_group.new.kernel c.args.ledger c.args.name.now
          c.in-Ok.ending c.in-Ok.log (g.E.Sink.told c.record_group.new.err) c.conclude.result
          run.ran c.conclude.ensures.written c.conclude.ensures.others c.conclude.ensures.same
          c.conclude.ensures.told;
      leaves = run_unended o f c.args.kernel.now c.record_group.new.kernel c.args.ledger
          c.args.name.now
          c.in-Ok.ending c.in-Ok.log (g.E.Sink.told c.record_group.new.err)
          (g.E.Sink.faults c.record_group.new.err) c.conclude.result run.ran
          c.conclude.ensures.others
          run.err_later c.conclude.ensures.leaves;
      asked = c.conclude.ensures.asked;
      files_later = c.conclude.ensures.files_later;
      host_later = c.in-Ok.ensures.host_later;
      host_steady = λ _. run.host_steady (no_stop _ _);
      out_later = c.in-Ok.ensures.out_later;
      err_later = le_trans c.in-Ok.ensures.err_later c.conclude.ensures.err_later;
      out_steady = λ _. run.out_steady (no_stop _ _);
      err_steady = λ other. c.conclude.ensures.err_steady other ∙ run.err_steady (no_stop _ _);
      fixed = c.in-Ok.ensures.fixed;
    }

pub record_group-requires-clause-running : goal.record_group-requires-clause-running
record_group-requires-clause-running g c = λ κs alive. c.requires.running

pub record_group-requires-clause-begins : goal.record_group-requires-clause-begins
record_group-requires-clause-begins g c = λ κs alive. c.requires.begins
