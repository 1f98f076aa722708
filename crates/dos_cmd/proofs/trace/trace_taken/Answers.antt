use Rattle.std.proofs.Common.{le_refl, refl}
use Rattle.std.proofs.lemmas.Result.{err_from_is_err_and}
use Rattle.dos_world.specs.declared.Scheme.TheVariants.{Ownership}
use Rattle.dos_cmd.specs.Outside.{outside, faults}
use Rattle.dos_cmd.proofs.ReplayEnds.{has_room, on_ok, opened_by}
use Rattle.dos_cmd.proofs.TraceEnds.{no_line_fault, trace_cut, trace_did, trace_not_opened}
use Rattle.dos_cmd.proofs.TraceEnds.{trace_stopped}
use Rattle.dos_cmd.proofs.NotBegun.{says_nothing}
use Rattle.dos_cmd.proofs.Steady.{no_stop, report_steady}
use Rattle.dos_cmd.proofs.trace.trace_taken.Goals as goal

pub returns-in_err-kernel : goal.returns-in_err-kernel
returns-in_err-kernel g c =
    let p = err_from_is_err_and c.from_residual.result c.from_residual.ensures.1 in
    rw (p.1, p.2) (record {
      did = tt;
      room = tt;
      leaves = (λ tells f f' h k k' m stay. trace_not_opened c.args.log c.args.images.now
          (outside tells f f' h h (g.O.Sink.told c.args.out.now) (g.O.Sink.told c.args.out.now)
          (g.E.Sink.told c.args.err.now) (g.E.Sink.told c.args.err.now)
          (g.W.Workers.tally c.args.workers.now) (g.W.Workers.tally c.args.workers.now))
          (faults k k' m m (g.O.Sink.faults c.args.out.now) (g.O.Sink.faults c.args.out.now)
          (g.E.Sink.faults c.args.err.now) (g.E.Sink.faults c.args.err.now)) _
          c.config_of.result c.config_of.ensures.config c.in_err-kernel.ensures.refused
          (says_nothing _ refl refl stay refl refl));
      out_later = le_refl _;
      err_later = le_refl _;
      out_steady = λ _. refl;
      err_steady = λ _. refl;
      fixed = refl;
    })

pub returns-in-Err : goal.returns-in-Err
returns-in-Err g c =
    let run = c.in-Err.ensures in
    record {
      did = tt;
      room = tt;
      leaves = λ tells f f' h k k' m stay.
          let opening = c.in_ok-kernel.ensures in
          let is = c.config_of.ensures.config in
          let opened = opened_by Ownership c.args.log c.args.images.now c.in_ok-kernel.kernel
          c.config_of.result is opening.opened in
          trace_stopped c.args.log c.args.images.now
          (outside tells f f' h h (g.O.Sink.told c.args.out.now)
          (g.O.Sink.told c.trace_log.new.lines) (g.E.Sink.told c.args.err.now)
          (g.E.Sink.told c.args.err.now) (g.W.Workers.tally c.args.workers.now)
          (g.W.Workers.tally c.trace_log.new.workers))
          (faults k k' m m (g.O.Sink.faults c.args.out.now) (g.O.Sink.faults c.trace_log.new.lines)
          (g.E.Sink.faults c.args.err.now) (g.E.Sink.faults c.args.err.now)) c.in-Err.stop _
          c.trace_refusal.ensures
          (has_room Ownership c.args.log c.args.images.now c.config_of.result is opening.room)
          run.only
          (λ found e. run.misfit found e c.args.images.now opened)
          (λ e. run.cut e c.args.images.now opened) run.memory run.rested run.cause refl
          (record { files_stay = stay; host_stays = λ i. h });
      out_later = run.later;
      err_later = le_refl _;
      out_steady = λ other. run.steady (no_line_fault c.in-Err.stop _ c.trace_refusal.ensures
          other);
      err_steady = λ _. refl;
      fixed = run.fixed;
    }

pub returns-in-Ok : goal.returns-in-Ok
returns-in-Ok g c =
    let opening = c.in_ok-kernel.ensures in
    let run = c.in-Ok.ensures in
    let is = c.config_of.ensures.config in
    let opened = opened_by Ownership c.args.log c.args.images.now c.in_ok-kernel.kernel
    c.config_of.result is
    opening.opened in
    record {
      did = trace_did c.args.log c.args.images.now c.in_ok-kernel.kernel c.trace_log.new.kernel
          c.in-Ok.ending (g.O.Sink.told c.args.out.now) (g.O.Sink.told c.trace_log.new.lines)
          (g.E.Sink.told c.args.err.now) (g.E.Sink.told c.report-ended.new.err)
          (g.W.Workers.tally c.args.workers.now) (g.W.Workers.tally c.trace_log.new.workers) opened
          run.ran c.report-ended.result c.report-ended.ensures.same c.report-ended.ensures.told;
      room = on_ok c.report-ended.result _
          (has_room Ownership c.args.log c.args.images.now c.config_of.result is opening.room);
      leaves = trace_cut c.args.log c.args.images.now c.in_ok-kernel.kernel c.trace_log.new.kernel
          c.in-Ok.ending (g.O.Sink.told c.args.out.now) (g.O.Sink.told c.trace_log.new.lines)
          (g.E.Sink.told c.args.err.now) (g.E.Sink.told c.report-ended.new.err)
          (g.W.Workers.tally c.args.workers.now) (g.W.Workers.tally c.trace_log.new.workers) opened
          run.ran (g.O.Sink.faults c.args.out.now) (g.O.Sink.faults c.trace_log.new.lines)
          (g.E.Sink.faults c.args.err.now) (g.E.Sink.faults c.report-ended.new.err)
          c.report-ended.result
          (has_room Ownership c.args.log c.args.images.now c.config_of.result is opening.room)
          c.report-ended.ensures.sink c.report-ended.ensures.cause c.report-ended.ensures.front;
      out_later = run.later;
      err_later = c.report-ended.ensures.cause.later;
      out_steady = λ _. run.steady (no_stop _ _);
      err_steady = λ other. report_steady c.report-ended.result _ _ c.report-ended.ensures.sink
          c.report-ended.ensures.steady other;
      fixed = run.fixed;
    }
