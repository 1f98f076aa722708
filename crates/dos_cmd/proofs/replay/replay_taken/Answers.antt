use Rattle.std.proofs.Common.{le_refl, le_trans, refl, ◌∙◌}
use Rattle.std.proofs.lemmas.Result.{err_from_is_err_and}
use Rattle.dos_cmd.specs.Outside.{outside, faults}
use Rattle.dos_cmd.proofs.ReplayEnds.{has_room, not_opened, on_ok, opened_by, replay_cut}
use Rattle.dos_cmd.proofs.ReplayEnds.{replay_did, replay_stopped}
use Rattle.dos_cmd.proofs.NotBegun.{says_nothing}
use Rattle.dos_cmd.proofs.RunEnds.{is_err_of}
use Rattle.dos_cmd.proofs.Steady.{no_stop, outputs_steady, report_steady}
use Rattle.dos_cmd.proofs.replay.replay_taken.Goals as goal

pub returns-in_err-kernel : goal.returns-in_err-kernel
returns-in_err-kernel g c =
    let p = err_from_is_err_and c.from_residual.result c.from_residual.ensures.1 in
    rw (p.1, p.2) (record {
      did = tt;
      room = tt;
      leaves = (λ tells f f' h k k' m stay. not_opened c.args.scheme c.args.log c.args.images.now
          (outside tells f f' h h (g.O.Sink.told c.args.out.now) (g.O.Sink.told c.args.out.now)
          (g.E.Sink.told c.args.err.now) (g.E.Sink.told c.args.err.now)
          (g.W.Workers.tally c.args.workers.now) (g.W.Workers.tally c.args.workers.now))
          (faults k k' m m (g.O.Sink.faults c.args.out.now) (g.O.Sink.faults c.args.out.now)
          (g.E.Sink.faults c.args.err.now) (g.E.Sink.faults c.args.err.now)) _
          c.config_of.result c.config_of.ensures.config c.in_err-kernel.ensures.refused
          (says_nothing _ refl refl stay refl refl));
      out_later = le_refl _;
      err_later = le_refl _;
      out_steady = λ _. refl;
      err_steady = λ _. refl;
      fixed = refl;
    })

pub returns-in-Err : goal.returns-in-Err
returns-in-Err g c = record {
  did = tt;
  room = tt;
  leaves = λ tells f f' h k k' m stay.
      let opening = c.in_ok-kernel.ensures in
      let run = c.in-Err.ensures in
      let is = c.config_of.ensures.config in
      let opened = opened_by c.args.scheme c.args.log c.args.images.now c.in_ok-kernel.kernel
      c.config_of.result
      is
      opening.opened in
      replay_stopped c.args.scheme c.args.log c.args.images.now
      (outside tells f f' h h (g.O.Sink.told c.args.out.now) (g.O.Sink.told c.replay_group.new.out)
      (g.E.Sink.told c.args.err.now) (g.E.Sink.told c.replay_group.new.err)
      (g.W.Workers.tally c.args.workers.now) (g.W.Workers.tally c.replay_group.new.workers))
      (faults k k' m m (g.O.Sink.faults c.args.out.now) (g.O.Sink.faults c.replay_group.new.out)
      (g.E.Sink.faults c.args.err.now) (g.E.Sink.faults c.replay_group.new.err)) c.in-Err.stop _
      c.refusal_by.ensures
      (has_room c.args.scheme c.args.log c.args.images.now c.config_of.result is opening.room)
      run.only
      (λ found e. run.misfit found (is_err_of _ _ e) c.args.scheme c.args.images.now opened)
      (run.cut c.args.scheme c.args.images.now opened) run.sinks
      (record { files_stay = stay; host_stays = λ i. h });
  out_later = c.in-Err.ensures.out_later;
  err_later = c.in-Err.ensures.err_later;
  out_steady = λ other. (outputs_steady c.in-Err.stop _ _ _ _ _ c.refusal_by.ensures
      c.in-Err.ensures.out_steady c.in-Err.ensures.err_steady other).0;
  err_steady = λ other. (outputs_steady c.in-Err.stop _ _ _ _ _ c.refusal_by.ensures
      c.in-Err.ensures.out_steady c.in-Err.ensures.err_steady other).1;
  fixed = c.in-Err.ensures.fixed;
}

pub returns-in-Ok : goal.returns-in-Ok
returns-in-Ok g c =
    let opening = c.in_ok-kernel.ensures in
    let run = c.in-Ok.ensures in
    let is = c.config_of.ensures.config in
    let opened = opened_by c.args.scheme c.args.log c.args.images.now c.in_ok-kernel.kernel
    c.config_of.result is
    opening.opened in
    record {
      did = replay_did c.args.scheme c.args.log c.args.images.now c.in_ok-kernel.kernel
          c.replay_group.new.kernel
          c.in-Ok.ending (g.O.Sink.told c.args.out.now) (g.E.Sink.told c.args.err.now)
          (g.O.Sink.told c.replay_group.new.out) (g.E.Sink.told c.replay_group.new.err)
          (g.E.Sink.told c.report-ended.new.err) (g.W.Workers.tally c.args.workers.now)
          (g.W.Workers.tally c.replay_group.new.workers) opened (run.ran c.args.scheme)
          c.report-ended.result
          c.report-ended.ensures.same c.report-ended.ensures.told;
      room = on_ok c.report-ended.result _
          (has_room c.args.scheme c.args.log c.args.images.now c.config_of.result is opening.room);
      leaves = replay_cut c.args.scheme c.args.log c.args.images.now c.in_ok-kernel.kernel
          c.replay_group.new.kernel
          c.in-Ok.ending (g.O.Sink.told c.args.out.now) (g.E.Sink.told c.args.err.now)
          (g.O.Sink.told c.replay_group.new.out) (g.E.Sink.told c.replay_group.new.err)
          (g.E.Sink.told c.report-ended.new.err) (g.W.Workers.tally c.args.workers.now)
          (g.W.Workers.tally c.replay_group.new.workers) opened (run.ran c.args.scheme)
          (g.O.Sink.faults c.args.out.now) (g.O.Sink.faults c.replay_group.new.out)
          (g.E.Sink.faults c.args.err.now) (g.E.Sink.faults c.replay_group.new.err)
          (g.E.Sink.faults c.report-ended.new.err) c.report-ended.result
          (has_room c.args.scheme c.args.log c.args.images.now c.config_of.result is opening.room)
          c.report-ended.ensures.sink run.err_later c.report-ended.ensures.cause
          c.report-ended.ensures.front;
      out_later = c.in-Ok.ensures.out_later;
      err_later = le_trans c.in-Ok.ensures.err_later c.report-ended.ensures.cause.later;
      out_steady = λ _. run.out_steady (no_stop _ _);
      err_steady = λ other. report_steady c.report-ended.result _ _ c.report-ended.ensures.sink
          c.report-ended.ensures.steady other ∙ run.err_steady (no_stop _ _);
      fixed = c.in-Ok.ensures.fixed;
    }
