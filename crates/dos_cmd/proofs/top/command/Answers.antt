use Rattle.std.proofs.Common.{le_refl, map, refl, string_bytes, ◌∙◌}
use Rattle.std.proofs.lemmas.Result.{err_from_is_err_and}
use Rattle.dos_words.specs.Request.{request}
use Rattle.dos_cmd.proofs.Asked.{asks_in, words_not_read}
use Rattle.dos_cmd.proofs.Calls.{did_hired, fails_by, finished_by, leaves_hired, not_read}
use Rattle.dos_cmd.proofs.NotBegun.{says_nothing}
use Rattle.dos_cmd.proofs.top.command.Goals as goal

pub returns-in_err-request : goal.returns-in_err-request
returns-in_err-request g c =
    let p = err_from_is_err_and c.from_residual.result c.from_residual.ensures.1 in
    let read = c.in_err-request.ensures in
    rw (p.1, p.2) (record {
      finished = tt;
      fails = not_read (map string_bytes c.args.words.now) _ _ _ read.refused read.only
          (says_nothing _ refl refl (λ n. refl) refl refl);
      asked = words_not_read (request (map string_bytes c.args.words.now)) _ _ read.refused
          read.only;
      files_later = le_refl _;
      host_later = le_refl _;
      host_steady = λ _. refl;
      out_later = le_refl _;
      err_later = le_refl _;
      out_steady = λ _. refl;
      err_steady = λ _. refl;
      fixed = refl;
    })

pub returns : goal.returns
returns g c =
    let asked = c.in_ok-request.ensures.asked in
    let ended = c.execute-ended.ensures in
    record {
      finished = finished_by c.execute-ended.result (map string_bytes c.args.words.now)
          c.in_ok-request.request _ asked
          (did_hired _ _ _ _ ended.did c.hire.ensures.tally);
      fails = fails_by c.execute-ended.result (map string_bytes c.args.words.now)
          c.in_ok-request.request _ _ asked
          (leaves_hired _ _ _ _ _ ended.leaves c.hire.ensures.tally);
      asked = asks_in c.execute-ended.result _ _ _ _ asked ended.asked;
      files_later = ended.files_later;
      host_later = ended.host_later;
      host_steady = ended.host_steady;
      out_later = ended.out_later;
      err_later = ended.err_later;
      out_steady = ended.out_steady;
      err_steady = ended.err_steady;
      fixed = ended.fixed ∙ c.hire.ensures.fixed;
    }
