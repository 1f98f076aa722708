use Rattle.std.proofs.Common.{Err, le_refl, le_trans, refl, subst, sym, ◌∙◌}
use Rattle.std.proofs.lemmas.Result.{err_from_is_err_and}
use Rattle.dos_world.specs.declared.Ending.{Ending}
use Rattle.dos_world.specs.declared.Scheme.TheVariants.{Ownership}
use Rattle.group_rounds.specs.Kernels.{kernel_world}
use Rattle.dos_cmd.specs.Outside.{outside, faults}
use Rattle.dos_cmd.proofs.Asked.{IsLater, later_opening, later_sink, later_stop, not_saving}
use Rattle.dos_cmd.proofs.Asked.{saving_asked}
use Rattle.dos_cmd.proofs.ReplayEnds.{has_room, on_ok, opened_by}
use Rattle.dos_cmd.proofs.NotBegun.{says_nothing}
use Rattle.dos_cmd.proofs.RunEnds.{is_err_of}
use Rattle.dos_cmd.proofs.SaveEnds.{arrived_so, back_by, ended_cut, ended_did, round_did}
use Rattle.dos_cmd.proofs.SaveEnds.{round_leaves}
use Rattle.dos_cmd.proofs.SaveEnds.{save_no_memory, save_not_opened}
use Rattle.dos_cmd.proofs.SaveEnds.{save_stopped, text_by}
use Rattle.dos_cmd.proofs.Steady.{no_stop, outputs_steady, report_steady}
use Rattle.dos_cmd.proofs.save.save_taken.Goals as goal

pub returns-in_err-kernel : goal.returns-in_err-kernel
returns-in_err-kernel g c =
    let p = err_from_is_err_and c.from_residual.result c.from_residual.ensures.1 in
    rw (p.1, p.2) (record {
      did = tt;
      room = tt;
      leaves = (λ f h k m stay few. save_not_opened c.args.log c.args.images.now c.args.round
          c.args.to.now
          (outside (g.F.Files.tells c.args.files.now) f (g.F.Files.content c.args.files.now) h h
          (g.O.Sink.told c.args.out.now) (g.O.Sink.told c.args.out.now)
          (g.E.Sink.told c.args.err.now) (g.E.Sink.told c.args.err.now)
          (g.W.Workers.tally c.args.workers.now) (g.W.Workers.tally c.args.workers.now))
          (faults k (g.F.Files.faults c.args.files.now) m m (g.O.Sink.faults c.args.out.now)
          (g.O.Sink.faults c.args.out.now) (g.E.Sink.faults c.args.err.now)
          (g.E.Sink.faults c.args.err.now)) _ c.config_of.result c.config_of.ensures.config
          c.in_err-kernel.ensures.refused (says_nothing _ refl refl stay refl refl));
      asked = not_saving {T = Ending} (Err _) c.args.to.now _
          (later_opening c.args.images.now c.config_of.result _ c.in_err-kernel.ensures.refused);
      files_later = le_refl _;
      out_later = le_refl _;
      err_later = le_refl _;
      out_steady = λ _. refl;
      err_steady = λ _. refl;
      fixed = refl;
    })

pub returns-in-Err : goal.returns-in-Err
returns-in-Err g c = record {
  did = tt;
  room = tt;
  leaves = λ f h k m stay few. save_no_memory c.args.log c.args.images.now c.args.round
      c.args.to.now
      (outside (g.F.Files.tells c.args.files.now) f (g.F.Files.content c.args.files.now) h h
      (g.O.Sink.told c.args.out.now) (g.O.Sink.told c.args.out.now)
      (g.E.Sink.told c.args.err.now) (g.E.Sink.told c.args.err.now)
      (g.W.Workers.tally c.args.workers.now) (g.W.Workers.tally c.args.workers.now))
      (faults k (g.F.Files.faults c.args.files.now) m m (g.O.Sink.faults c.args.out.now)
      (g.O.Sink.faults c.args.out.now) (g.E.Sink.faults c.args.err.now)
      (g.E.Sink.faults c.args.err.now)) _ c.in-Err.ensures.memory
      (says_nothing _ refl refl stay refl refl);
  asked = not_saving {T = Ending} (Err _) c.args.to.now _
      (subst IsLater (sym c.in-Err.ensures.memory) tt);
  files_later = le_refl _;
  out_later = le_refl _;
  err_later = le_refl _;
  out_steady = λ _. refl;
  err_steady = λ _. refl;
  fixed = refl;
}

pub returns-in-Err-replay_to : goal.returns-in-Err-replay_to
returns-in-Err-replay_to g c =
    let opening = c.in_ok-kernel.ensures in
    let run = c.in-Err-replay_to.ensures in
    let is = c.config_of.ensures.config in
    let opened = opened_by Ownership c.args.log c.args.images.now c.in_ok-kernel.kernel
    c.config_of.result is
    opening.opened in
    record {
      did = tt;
      room = tt;
      leaves = λ f h k m stay few. save_stopped c.args.log c.args.images.now c.args.round
          c.args.to.now
          (outside (g.F.Files.tells c.args.files.now) f (g.F.Files.content c.args.files.now) h h
          (g.O.Sink.told c.args.out.now) (g.O.Sink.told c.replay_to.new.out)
          (g.E.Sink.told c.args.err.now) (g.E.Sink.told c.replay_to.new.err)
          (g.W.Workers.tally c.args.workers.now) (g.W.Workers.tally c.replay_to.new.workers))
          (faults k (g.F.Files.faults c.args.files.now) m m (g.O.Sink.faults c.args.out.now)
          (g.O.Sink.faults c.replay_to.new.out) (g.E.Sink.faults c.args.err.now)
          (g.E.Sink.faults c.replay_to.new.err)) c.in-Err-replay_to.stop _ c.refusal_by.ensures
          (has_room Ownership c.args.log c.args.images.now c.config_of.result is opening.room)
          run.only
          (λ found e. run.misfit found (is_err_of _ _ e) Ownership c.args.images.now opened)
          (run.cut Ownership c.args.images.now opened) run.sinks
          (record { files_stay = stay; host_stays = λ i. h });
      asked = not_saving {T = Ending} (Err _) c.args.to.now _
          (later_stop c.in-Err-replay_to.stop _ c.refusal_by.ensures);
      files_later = le_refl _;
      out_later = run.out_later;
      err_later = run.err_later;
      out_steady = λ other. (outputs_steady c.in-Err-replay_to.stop _ _ _ _ _ c.refusal_by.ensures
          run.out_steady run.err_steady other).0;
      err_steady = λ other. (outputs_steady c.in-Err-replay_to.stop _ _ _ _ _ c.refusal_by.ensures
          run.out_steady run.err_steady other).1;
      fixed = run.fixed;
    }

pub returns-in-Ok-AtItsEnd : goal.returns-in-Ok-AtItsEnd
returns-in-Ok-AtItsEnd g c =
    let opening = c.in_ok-kernel.ensures in
    let run = c.in-Ok-AtItsEnd.ensures in
    let is = c.config_of.ensures.config in
    let opened = opened_by Ownership c.args.log c.args.images.now c.in_ok-kernel.kernel
    c.config_of.result is
    opening.opened in
    let arrived = arrived_so c.in-Ok-AtItsEnd.field-0 _ c.args.images.now c.args.log c.args.round
    c.replay_to.new.kernel (g.O.Sink.told c.args.out.now) (g.E.Sink.told c.args.err.now)
    (g.O.Sink.told c.replay_to.new.out) (g.E.Sink.told c.replay_to.new.err)
    (g.W.Workers.tally c.args.workers.now) (g.W.Workers.tally c.replay_to.new.workers)
    c.in-Ok-AtItsEnd.field-0-is (run.arrived Ownership c.args.images.now opened) in
    record {
      did = ended_did c.args.log c.args.images.now c.args.round c.args.to.now
          c.replay_to.new.kernel c.in-Ok-AtItsEnd.ending (g.F.Files.tells c.args.files.now)
          (g.F.Files.content c.args.files.now) (g.O.Sink.told c.args.out.now)
          (g.E.Sink.told c.args.err.now) (g.O.Sink.told c.replay_to.new.out)
          (g.E.Sink.told c.replay_to.new.err) (g.E.Sink.told c.report-ended.new.err)
          (g.W.Workers.tally c.args.workers.now) (g.W.Workers.tally c.replay_to.new.workers)
          arrived c.report-ended.result
          c.report-ended.ensures.same c.report-ended.ensures.told;
      room = on_ok c.report-ended.result _
          (has_room Ownership c.args.log c.args.images.now c.config_of.result is opening.room);
      leaves = ended_cut c.args.log c.args.images.now c.args.round c.args.to.now
          c.replay_to.new.kernel c.in-Ok-AtItsEnd.ending (g.F.Files.tells c.args.files.now)
          (g.F.Files.content c.args.files.now) (g.O.Sink.told c.args.out.now)
          (g.E.Sink.told c.args.err.now) (g.O.Sink.told c.replay_to.new.out)
          (g.E.Sink.told c.replay_to.new.err) (g.E.Sink.told c.report-ended.new.err)
          (g.W.Workers.tally c.args.workers.now) (g.W.Workers.tally c.replay_to.new.workers)
          arrived (g.F.Files.faults c.args.files.now)
          (g.O.Sink.faults c.args.out.now) (g.O.Sink.faults c.replay_to.new.out)
          (g.E.Sink.faults c.args.err.now) (g.E.Sink.faults c.replay_to.new.err)
          (g.E.Sink.faults c.report-ended.new.err) c.report-ended.result
          (has_room Ownership c.args.log c.args.images.now c.config_of.result is opening.room)
          c.report-ended.ensures.sink run.err_later c.report-ended.ensures.cause
          c.report-ended.ensures.front;
      asked = not_saving c.report-ended.result c.args.to.now _
          (later_sink c.report-ended.result c.report-ended.ensures.sink);
      files_later = le_refl _;
      out_later = run.out_later;
      err_later = le_trans run.err_later c.report-ended.ensures.cause.later;
      out_steady = λ _. run.out_steady (no_stop _ _);
      err_steady = λ other. report_steady c.report-ended.result _ _ c.report-ended.ensures.sink
          c.report-ended.ensures.steady other ∙ run.err_steady (no_stop _ _);
      fixed = run.fixed;
    }

pub returns-in-Ok-AtRound : goal.returns-in-Ok-AtRound
returns-in-Ok-AtRound g c =
    let opening = c.in_ok-kernel.ensures in
    let run = c.in-Ok-AtRound.ensures in
    let is = c.config_of.ensures.config in
    let opened = opened_by Ownership c.args.log c.args.images.now c.in_ok-kernel.kernel
    c.config_of.result is
    opening.opened in
    let text = text_by c.args.log c.in-Ok-AtRound.used (kernel_world c.replay_to.new.kernel)
    c.in-Ok.digest c.replay_to.new.kernel.config c.in-Ok.ensures.digest
    (run.config ∙ opening.opened.config_is ∙ is) in
    let arrived = arrived_so c.in-Ok-AtRound.field-0 _ c.args.images.now c.args.log c.args.round
    c.replay_to.new.kernel (g.O.Sink.told c.args.out.now) (g.E.Sink.told c.args.err.now)
    (g.O.Sink.told c.replay_to.new.out) (g.E.Sink.told c.replay_to.new.err)
    (g.W.Workers.tally c.args.workers.now) (g.W.Workers.tally c.replay_to.new.workers)
    c.in-Ok-AtRound.field-0-is (run.arrived Ownership c.args.images.now opened) in
    record {
      did = round_did c.args.log c.args.images.now c.args.round c.in-Ok-AtRound.used c.args.to.now
          _ _ text (g.F.Files.tells c.args.files.now) (g.F.Files.content c.args.files.now)
          (g.F.Files.content c.save_group.new.files) (g.O.Sink.told c.args.out.now)
          (g.E.Sink.told c.args.err.now) (g.O.Sink.told c.replay_to.new.out)
          (g.E.Sink.told c.replay_to.new.err) (g.E.Sink.told c.save_group.new.err)
          (g.W.Workers.tally c.args.workers.now) (g.W.Workers.tally c.replay_to.new.workers)
          arrived c.save_group.result
          (back_by c.save_group.result c.args.log c.in-Ok-AtRound.used
          (kernel_world c.replay_to.new.kernel) c.in-Ok.digest c.replay_to.new.kernel.config
          c.in-Ok.ensures.digest (run.config ∙ opening.opened.config_is ∙ is)
          c.save_group.ensures.back) c.save_group.ensures.saved;
      room = on_ok c.save_group.result _
          (has_room Ownership c.args.log c.args.images.now c.config_of.result is opening.room);
      leaves = round_leaves c.args.log c.args.images.now c.args.round c.in-Ok-AtRound.used
          c.args.to.now _ _ text (g.F.Files.tells c.args.files.now)
          (g.F.Files.content c.args.files.now) (g.F.Files.content c.save_group.new.files)
          (g.O.Sink.told c.args.out.now) (g.E.Sink.told c.args.err.now)
          (g.O.Sink.told c.replay_to.new.out) (g.E.Sink.told c.replay_to.new.err)
          (g.E.Sink.told c.save_group.new.err) (g.W.Workers.tally c.args.workers.now)
          (g.W.Workers.tally c.replay_to.new.workers) arrived
          (g.F.Files.faults c.args.files.now) (g.F.Files.faults c.save_group.new.files)
          (g.O.Sink.faults c.args.out.now) (g.O.Sink.faults c.replay_to.new.out)
          (g.E.Sink.faults c.args.err.now) (g.E.Sink.faults c.replay_to.new.err)
          (g.E.Sink.faults c.save_group.new.err) c.save_group.result
          (has_room Ownership c.args.log c.args.images.now c.config_of.result is opening.room)
          run.err_later
          c.save_group.ensures.leaves;
      asked = saving_asked c.save_group.result c.args.to.now _ _ c.save_group.ensures.asked;
      files_later = c.save_group.ensures.files_later;
      out_later = run.out_later;
      err_later = le_trans run.err_later c.save_group.ensures.err_later;
      out_steady = λ _. run.out_steady (no_stop _ _);
      err_steady = λ other. c.save_group.ensures.err_steady other ∙ run.err_steady (no_stop _ _);
      fixed = run.fixed;
    }
