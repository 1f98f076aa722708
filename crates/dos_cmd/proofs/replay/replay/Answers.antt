use Rattle.std.proofs.Common.{le_refl, refl, [], ◌∷◌}
use Rattle.std.proofs.lemmas.Result.{err_from_is_err_and}
use Rattle.dos_words.specs.declared.request.Request.TheVariants as requests
use Rattle.dos_cmd.specs.Outside.{outside, faults}
use Rattle.dos_cmd.proofs.ReplayEnds.{replay_begun, replay_later, replay_leaves, same_images}
use Rattle.dos_cmd.proofs.Asked.{all_read}
use Rattle.dos_cmd.proofs.NotBegun.{leaves_reading, says_nothing}
use Rattle.dos_cmd.proofs.RunEnds.{is_err_of}
use Rattle.dos_cmd.proofs.replay.replay.Goals as goal

pub returns-in_err-log : goal.returns-in_err-log
returns-in_err-log g c =
    let p = err_from_is_err_and c.from_residual.result c.from_residual.ensures.1 in
    rw (p.1, p.2) (record {
      did = λ n h. tt;
      leaves = let take = c.in_err-log.ensures in
          (λ n h m. leaves_reading (requests.Replay n c.args.scheme c.args.log.now c.args.names.now)
          (outside (g.F.Files.tells c.args.files.now) (g.F.Files.content c.args.files.now)
          (g.F.Files.content c.take.new.files) h h (g.O.Sink.told c.args.out.now)
          (g.O.Sink.told c.args.out.now) (g.E.Sink.told c.args.err.now) (g.E.Sink.told
          c.args.err.now)
          (g.W.Workers.tally c.args.workers.now) (g.W.Workers.tally c.args.workers.now))
          (faults (g.F.Files.faults c.args.files.now) (g.F.Files.faults c.take.new.files) m m
          (g.O.Sink.faults c.args.out.now) (g.O.Sink.faults c.args.out.now)
          (g.E.Sink.faults c.args.err.now) (g.E.Sink.faults c.args.err.now)) _ take.refused
          (λ e. take.fault (is_err_of _ _ e)) (says_nothing _ refl refl take.stays refl refl));
      asked = λ n. c.in_err-log.ensures.asked;
      files_later = c.take.ensures.later;
      out_later = le_refl _;
      err_later = le_refl _;
      out_steady = λ _. refl;
      err_steady = λ _. refl;
      fixed = refl;
    })

pub returns : goal.returns
returns g c =
    let take = c.in_ok-log.ensures in
    record {
      did = replay_begun c.args.scheme c.in_ok-log.log c.deref.result.now c.args.log.now
          c.args.names.now
          (g.F.Files.tells c.args.files.now) (g.F.Files.content c.args.files.now)
          (g.F.Files.content c.take.new.files) (g.O.Sink.told c.args.out.now)
          (g.E.Sink.told c.args.err.now) (g.O.Sink.told c.replay_taken.new.out)
          (g.E.Sink.told c.replay_taken.new.err) (g.W.Workers.tally c.args.workers.now)
          (g.W.Workers.tally c.replay_taken.new.workers) c.replay_taken.result
          (same_images _ c.in_ok-log.log _ _ c.deref.ensures.value take.taken)
          c.replay_taken.ensures.room take.stays c.replay_taken.ensures.did;
      leaves = replay_leaves c.args.scheme c.in_ok-log.log c.deref.result.now c.args.log.now
          c.args.names.now
          (g.F.Files.tells c.args.files.now) (g.F.Files.content c.args.files.now)
          (g.F.Files.content c.take.new.files) (g.O.Sink.told c.args.out.now)
          (g.E.Sink.told c.args.err.now) (g.O.Sink.told c.replay_taken.new.out)
          (g.E.Sink.told c.replay_taken.new.err) (g.W.Workers.tally c.args.workers.now)
          (g.W.Workers.tally c.replay_taken.new.workers) (g.F.Files.faults c.args.files.now)
          (g.F.Files.faults c.take.new.files) (g.O.Sink.faults c.args.out.now)
          (g.O.Sink.faults c.replay_taken.new.out) (g.E.Sink.faults c.args.err.now)
          (g.E.Sink.faults c.replay_taken.new.err) c.replay_taken.result
          (same_images _ c.in_ok-log.log _ _ c.deref.ensures.value take.taken) take.stays
          c.replay_taken.ensures.leaves;
      asked = λ n. all_read c.replay_taken.result (c.args.log.now ∷ []) c.args.names.now _ _
          (replay_later c.args.scheme c.in_ok-log.log c.deref.result.now
          (g.O.Sink.told c.args.out.now)
          (g.E.Sink.told c.args.err.now) (g.O.Sink.told c.replay_taken.new.out)
          (g.E.Sink.told c.replay_taken.new.err) (g.W.Workers.tally c.args.workers.now)
          (g.W.Workers.tally c.replay_taken.new.workers) (g.O.Sink.faults c.args.out.now)
          (g.O.Sink.faults c.replay_taken.new.out) (g.E.Sink.faults c.args.err.now)
          (g.E.Sink.faults c.replay_taken.new.err) c.replay_taken.result
          c.replay_taken.ensures.leaves) take.asked;
      files_later = c.take.ensures.later;
      out_later = c.replay_taken.ensures.out_later;
      err_later = c.replay_taken.ensures.err_later;
      out_steady = c.replay_taken.ensures.out_steady;
      err_steady = c.replay_taken.ensures.err_steady;
      fixed = c.replay_taken.ensures.fixed;
    }

pub take-requires : goal.take-requires
take-requires g c = c.requires
