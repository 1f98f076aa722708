use Rattle.std.proofs.Common.{le_refl, refl, [], ◌∷◌}
use Rattle.std.proofs.lemmas.Result.{err_from_is_err_and}
use Rattle.dos_words.specs.declared.request.Request.TheVariants as requests
use Rattle.group_text.specs.Records.{group_of_record}
use Rattle.dos_cmd.specs.Outside.{outside, faults}
use Rattle.dos_cmd.proofs.Asked.{all_read}
use Rattle.dos_cmd.proofs.NotBegun.{says_nothing}
use Rattle.dos_cmd.proofs.ResumeEnds.{leaves_taking, resume_begun, resume_leaves, resuming_later}
use Rattle.dos_cmd.proofs.RunEnds.{is_err_of}
use Rattle.dos_cmd.proofs.resume.resume.Goals as goal

pub returns-in_err-group : goal.returns-in_err-group
returns-in_err-group g c =
    let p = err_from_is_err_and c.from_residual.result c.from_residual.ensures.1 in
    rw (p.1, p.2) (record {
      did = λ n h. tt;
      leaves = let take = c.in_err-group.ensures in
          (λ n h m. leaves_taking (requests.Resume n c.args.log.now c.args.from.now)
          (outside (g.F.Files.tells c.args.files.now) (g.F.Files.content c.args.files.now)
          (g.F.Files.content c.take_saved.new.files) h h (g.O.Sink.told c.args.out.now)
          (g.O.Sink.told c.args.out.now) (g.E.Sink.told c.args.err.now) (g.E.Sink.told
          c.args.err.now)
          (g.W.Workers.tally c.args.workers.now) (g.W.Workers.tally c.args.workers.now))
          (faults (g.F.Files.faults c.args.files.now) (g.F.Files.faults c.take_saved.new.files)
          m m
          (g.O.Sink.faults c.args.out.now) (g.O.Sink.faults c.args.out.now)
          (g.E.Sink.faults c.args.err.now) (g.E.Sink.faults c.args.err.now)) _ take.refused
          (λ e. take.fault (is_err_of _ _ e)) (says_nothing _ refl refl take.stays refl refl));
      asked = λ n. c.in_err-group.ensures.asked;
      files_later = c.take_saved.ensures.later;
      out_later = le_refl _;
      err_later = le_refl _;
      out_steady = λ _. refl;
      err_steady = λ _. refl;
      fixed = refl;
    })

pub returns : goal.returns
returns g c =
    let take = c.in_ok-group.ensures in
    let done = c.resume_taken.ensures in
    let group = group_of_record c.in_ok-group.group in
    record {
      did = resume_begun group c.in_ok-group.log c.args.log.now c.args.from.now
          (g.F.Files.tells c.args.files.now) (g.F.Files.content c.args.files.now)
          (g.F.Files.content c.take_saved.new.files) (g.O.Sink.told c.args.out.now)
          (g.E.Sink.told c.args.err.now) (g.O.Sink.told c.resume_taken.new.out)
          (g.E.Sink.told c.resume_taken.new.err) (g.W.Workers.tally c.args.workers.now)
          (g.W.Workers.tally c.resume_taken.new.workers) c.resume_taken.result take.taken
          take.stays done.did;
      leaves = resume_leaves group c.in_ok-group.log c.args.log.now c.args.from.now
          (g.F.Files.tells c.args.files.now) (g.F.Files.content c.args.files.now)
          (g.F.Files.content c.take_saved.new.files) (g.O.Sink.told c.args.out.now)
          (g.E.Sink.told c.args.err.now) (g.O.Sink.told c.resume_taken.new.out)
          (g.E.Sink.told c.resume_taken.new.err) (g.W.Workers.tally c.args.workers.now)
          (g.W.Workers.tally c.resume_taken.new.workers) (g.F.Files.faults c.args.files.now)
          (g.F.Files.faults c.take_saved.new.files) (g.O.Sink.faults c.args.out.now)
          (g.O.Sink.faults c.resume_taken.new.out) (g.E.Sink.faults c.args.err.now)
          (g.E.Sink.faults c.resume_taken.new.err) c.resume_taken.result take.taken take.stays
          done.leaves;
      asked = λ n. all_read c.resume_taken.result (c.args.from.now ∷ c.args.log.now ∷ []) [] _ _
          (resuming_later group c.in_ok-group.log (g.O.Sink.told c.args.out.now)
          (g.E.Sink.told c.args.err.now) (g.O.Sink.told c.resume_taken.new.out)
          (g.E.Sink.told c.resume_taken.new.err) (g.W.Workers.tally c.args.workers.now)
          (g.W.Workers.tally c.resume_taken.new.workers) (g.O.Sink.faults c.args.out.now)
          (g.O.Sink.faults c.resume_taken.new.out) (g.E.Sink.faults c.args.err.now)
          (g.E.Sink.faults c.resume_taken.new.err) c.resume_taken.result done.leaves) take.asked;
      files_later = take.later;
      out_later = done.out_later;
      err_later = done.err_later;
      out_steady = done.out_steady;
      err_steady = done.err_steady;
      fixed = done.fixed;
    }
