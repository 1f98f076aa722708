use Rattle.std.proofs.Common.{le_refl, le_trans, refl, [], ◌∷◌}
use Rattle.std.proofs.lemmas.Result.{err_from_is_err_and}
use Rattle.dos_words.specs.declared.request.Request.TheVariants as requests
use Rattle.dos_cmd.specs.Outside.{outside, faults}
use Rattle.dos_cmd.proofs.Asked.{not_saved_yet, saved_then}
use Rattle.dos_cmd.proofs.NotBegun.{leaves_reading, says_nothing}
use Rattle.dos_cmd.proofs.ReplayEnds.{same_images}
use Rattle.dos_cmd.proofs.RunEnds.{is_err_of}
use Rattle.dos_cmd.proofs.SaveCalls.{save_left, save_whole, saving_later}
use Rattle.dos_cmd.proofs.save.save.Goals as goal

pub returns-in_err-log : goal.returns-in_err-log
returns-in_err-log g c =
    let p = err_from_is_err_and c.from_residual.result c.from_residual.ensures.1 in
    rw (p.1, p.2) (record {
      did = λ n h. tt;
      leaves = let take = c.in_err-log.ensures in
          (λ n h m. leaves_reading (requests.Save n c.args.log.now c.args.round c.args.to.now
          c.args.names.now)
          (outside (g.F.Files.tells c.args.files.now) (g.F.Files.content c.args.files.now)
          (g.F.Files.content c.take.new.files) h h (g.O.Sink.told c.args.out.now)
          (g.O.Sink.told c.args.out.now) (g.E.Sink.told c.args.err.now) (g.E.Sink.told
          c.args.err.now)
          (g.W.Workers.tally c.args.workers.now) (g.W.Workers.tally c.args.workers.now))
          (faults (g.F.Files.faults c.args.files.now) (g.F.Files.faults c.take.new.files) m m
          (g.O.Sink.faults c.args.out.now) (g.O.Sink.faults c.args.out.now)
          (g.E.Sink.faults c.args.err.now) (g.E.Sink.faults c.args.err.now)) _ take.refused
          (λ e. take.fault (is_err_of _ _ e)) (says_nothing _ refl refl take.stays refl refl));
      asked = λ n. not_saved_yet (c.args.log.now ∷ []) c.args.names.now c.args.to.now _ _ _
          c.in_err-log.ensures.asked;
      files_later = c.take.ensures.later;
      out_later = le_refl _;
      err_later = le_refl _;
      out_steady = λ _. refl;
      err_steady = λ _. refl;
      fixed = refl;
    })

pub returns : goal.returns
returns g c =
    let take = c.in_ok-log.ensures in
    let done = c.save_taken.ensures in
    record {
      did = save_whole c.in_ok-log.log c.deref.result.now c.args.log.now c.args.round c.args.to.now
          c.args.names.now (g.F.Files.tells c.args.files.now) (g.F.Files.tells c.take.new.files)
          (g.F.Files.content c.args.files.now) (g.F.Files.content c.take.new.files)
          (g.F.Files.content c.save_taken.new.files) take.stays take.tells
          (same_images _ c.in_ok-log.log _ _ c.deref.ensures.value take.taken)
          (g.O.Sink.told c.args.out.now) (g.E.Sink.told c.args.err.now)
          (g.O.Sink.told c.save_taken.new.out) (g.E.Sink.told c.save_taken.new.err)
          (g.W.Workers.tally c.args.workers.now) (g.W.Workers.tally c.save_taken.new.workers)
          c.save_taken.result done.room done.did;
      leaves = save_left c.in_ok-log.log c.deref.result.now c.args.log.now c.args.round
          c.args.to.now
          c.args.names.now (g.F.Files.tells c.args.files.now) (g.F.Files.tells c.take.new.files)
          (g.F.Files.content c.args.files.now) (g.F.Files.content c.take.new.files)
          (g.F.Files.content c.save_taken.new.files) take.stays take.tells
          (same_images _ c.in_ok-log.log _ _ c.deref.ensures.value take.taken)
          (g.O.Sink.told c.args.out.now) (g.E.Sink.told c.args.err.now)
          (g.O.Sink.told c.save_taken.new.out) (g.E.Sink.told c.save_taken.new.err)
          (g.W.Workers.tally c.args.workers.now) (g.W.Workers.tally c.save_taken.new.workers)
          c.save_taken.result (g.F.Files.faults c.args.files.now)
          (g.F.Files.faults c.take.new.files) (g.F.Files.faults c.save_taken.new.files)
          (g.O.Sink.faults c.args.out.now) (g.O.Sink.faults c.save_taken.new.out)
          (g.E.Sink.faults c.args.err.now) (g.E.Sink.faults c.save_taken.new.err) take.later
          done.leaves;
      asked = λ n. saved_then c.save_taken.result (c.args.log.now ∷ []) c.args.names.now
          c.args.to.now _ _ _ take.asked
          (saving_later c.in_ok-log.log c.deref.result.now c.args.round c.args.to.now
          (g.F.Files.tells c.take.new.files) (g.F.Files.content c.take.new.files)
          (g.F.Files.content c.save_taken.new.files) (g.O.Sink.told c.args.out.now)
          (g.E.Sink.told c.args.err.now) (g.O.Sink.told c.save_taken.new.out)
          (g.E.Sink.told c.save_taken.new.err) (g.W.Workers.tally c.args.workers.now)
          (g.W.Workers.tally c.save_taken.new.workers) (g.F.Files.faults c.take.new.files)
          (g.F.Files.faults c.save_taken.new.files) (g.O.Sink.faults c.args.out.now)
          (g.O.Sink.faults c.save_taken.new.out) (g.E.Sink.faults c.args.err.now)
          (g.E.Sink.faults c.save_taken.new.err) c.save_taken.result done.leaves) done.asked;
      files_later = le_trans take.later done.files_later;
      out_later = done.out_later;
      err_later = done.err_later;
      out_steady = done.out_steady;
      err_steady = done.err_steady;
      fixed = done.fixed;
    }

pub take-requires : goal.take-requires
take-requires g c = c.requires.few
