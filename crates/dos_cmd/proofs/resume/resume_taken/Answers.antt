use Rattle.std.proofs.Common.{le_refl, le_trans, refl, ◌∙◌}
use Rattle.group_text.specs.Records.{group_of_record}
use Rattle.dos_cmd.specs.Outside.{Outside, outside, faults}
use Rattle.dos_cmd.proofs.NotBegun.{says_nothing}
use Rattle.dos_cmd.proofs.ResumeEnds.{IsAhead, StopsAt, Whole, of_group, resume_cut, resume_did}
use Rattle.dos_cmd.proofs.ResumeEnds.{resume_no_memory, resume_stopped}
use Rattle.dos_cmd.proofs.RunEnds.{is_err_of}
use Rattle.dos_cmd.proofs.Steady.{no_stop, outputs_steady, report_steady}
use Rattle.dos_cmd.proofs.resume.resume_taken.Goals as goal

pub returns-in-Err : goal.returns-in-Err
returns-in-Err g c = record {
  did = tt;
  leaves = λ tells f f' h k k' m stay. resume_no_memory (group_of_record c.args.group) c.args.log
      (outside tells f f' h h (g.O.Sink.told c.args.out.now) (g.O.Sink.told c.args.out.now)
      (g.E.Sink.told c.args.err.now) (g.E.Sink.told c.args.err.now)
      (g.W.Workers.tally c.args.workers.now) (g.W.Workers.tally c.args.workers.now))
      (faults k k' m m (g.O.Sink.faults c.args.out.now) (g.O.Sink.faults c.args.out.now)
      (g.E.Sink.faults c.args.err.now) (g.E.Sink.faults c.args.err.now)) _
      c.in-Err.ensures.memory (says_nothing _ refl refl stay refl refl);
  out_later = le_refl _;
  err_later = le_refl _;
  out_steady = λ _. refl;
  err_steady = λ _. refl;
  fixed = refl;
}

pub returns-in-Err-resume_group : goal.returns-in-Err-resume_group
returns-in-Err-resume_group g c =
    let run = c.in-Err-resume_group.ensures in
    let group = group_of_record c.args.group in
    let opened = c.in-Ok.ensures in
    record {
      did = tt;
      leaves = λ tells f f' h k k' m stay.
          let o : Outside = outside tells f f' h h (g.O.Sink.told c.args.out.now)
          (g.O.Sink.told c.resume_group.new.out) (g.E.Sink.told c.args.err.now)
          (g.E.Sink.told c.resume_group.new.err) (g.W.Workers.tally c.args.workers.now)
          (g.W.Workers.tally c.resume_group.new.workers) in
          resume_stopped group c.args.log o
          (faults k k' m m (g.O.Sink.faults c.args.out.now)
          (g.O.Sink.faults c.resume_group.new.out) (g.E.Sink.faults c.args.err.now)
          (g.E.Sink.faults c.resume_group.new.err)) c.in-Err-resume_group.stop _
          c.refusal_by.ensures run.only
          (λ found e. of_group group c.in-Ok.kernel c.args.group.used opened.world opened.config
          refl (StopsAt c.args.log found o) (run.misfit found (is_err_of _ _ e)))
          (of_group group c.in-Ok.kernel c.args.group.used opened.world opened.config refl
          (IsAhead c.args.log o) run.cut) run.sinks
          (record { files_stay = stay; host_stays = λ i. h });
      out_later = run.out_later;
      err_later = run.err_later;
      out_steady = λ other. (outputs_steady c.in-Err-resume_group.stop _ _ _ _ _
          c.refusal_by.ensures run.out_steady run.err_steady other).0;
      err_steady = λ other. (outputs_steady c.in-Err-resume_group.stop _ _ _ _ _
          c.refusal_by.ensures run.out_steady run.err_steady other).1;
      fixed = run.fixed;
    }

pub returns-in-Ok-resume_group : goal.returns-in-Ok-resume_group
returns-in-Ok-resume_group g c =
    let run = c.in-Ok-resume_group.ensures in
    let group = group_of_record c.args.group in
    let opened = c.in-Ok.ensures in
    let ran = of_group group c.in-Ok.kernel c.args.group.used opened.world opened.config refl
    (Whole c.args.log c.resume_group.new.kernel c.in-Ok-resume_group.ending
    (g.O.Sink.told c.args.out.now) (g.E.Sink.told c.args.err.now)
    (g.O.Sink.told c.resume_group.new.out) (g.E.Sink.told c.resume_group.new.err)
    (g.W.Workers.tally c.args.workers.now) (g.W.Workers.tally c.resume_group.new.workers))
    run.ran in
    record {
      did = resume_did group c.args.log c.resume_group.new.kernel c.in-Ok-resume_group.ending
          (g.O.Sink.told c.args.out.now) (g.E.Sink.told c.args.err.now)
          (g.O.Sink.told c.resume_group.new.out) (g.E.Sink.told c.resume_group.new.err)
          (g.E.Sink.told c.report-ended.new.err) (g.W.Workers.tally c.args.workers.now)
          (g.W.Workers.tally c.resume_group.new.workers) ran c.report-ended.result
          c.report-ended.ensures.same c.report-ended.ensures.told;
      leaves = resume_cut group c.args.log c.resume_group.new.kernel c.in-Ok-resume_group.ending
          (g.O.Sink.told c.args.out.now) (g.E.Sink.told c.args.err.now)
          (g.O.Sink.told c.resume_group.new.out) (g.E.Sink.told c.resume_group.new.err)
          (g.E.Sink.told c.report-ended.new.err) (g.W.Workers.tally c.args.workers.now)
          (g.W.Workers.tally c.resume_group.new.workers) ran (g.O.Sink.faults c.args.out.now)
          (g.O.Sink.faults c.resume_group.new.out) (g.E.Sink.faults c.args.err.now)
          (g.E.Sink.faults c.resume_group.new.err) (g.E.Sink.faults c.report-ended.new.err)
          c.report-ended.result c.report-ended.ensures.sink run.err_later
          c.report-ended.ensures.cause c.report-ended.ensures.front;
      out_later = run.out_later;
      err_later = le_trans run.err_later c.report-ended.ensures.cause.later;
      out_steady = λ _. run.out_steady (no_stop _ _);
      err_steady = λ other. report_steady c.report-ended.result _ _ c.report-ended.ensures.sink
          c.report-ended.ensures.steady other ∙ run.err_steady (no_stop _ _);
      fixed = run.fixed;
    }
