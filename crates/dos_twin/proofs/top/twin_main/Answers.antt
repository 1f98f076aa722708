use Rattle.std.proofs.Common.{inl, le_trans, map, string_bytes, ◌∙◌}
use Rattle.dos_texts.proofs.Statuses.{refusal_ends_not}
use Rattle.dos_twin.proofs.TwinCalls.{cut_short, done_as, done_must, done_not_none}
use Rattle.dos_twin.proofs.TwinCalls.{done_not_refused, ends_never, ends_not_six, ends_or_not}
use Rattle.dos_twin.proofs.TwinCalls.{fails_never_of, fails_none, fails_not, fails_refused}
use Rattle.dos_twin.proofs.TwinCalls.{no_sink, no_stop, refused_as, status_ends}
use Rattle.dos_twin.proofs.top.twin_main.Goals as goal

-- ---- it was done

pub returns-in-Ok : goal.returns-in-Ok
returns-in-Ok g c =
    let words = map string_bytes c.args.words.now in
    let ends = status_ends _ _ c.ending_status.ensures in
    let end = c.in-Ok.ensures in
    let done = done_as words _ _ _ c.ending_status.ensures end.finished in
    record {
      statuses = inl (c.in-Ok.ending, c.ending_status.ensures);
      never = ends_never _ ends;
      finished = λ _. done;
      refused = λ a b d e. absurd (ends_or_not _ ends a d e);
      six = λ six. absurd (ends_not_six _ ends six);
      words_refused = λ none a b. absurd (done_not_none words _ _ end.finished none);
      files_refused = λ names why are told a b d.
          absurd (done_not_refused words _ _ names why end.finished are told);
      done = λ names images are told a b d. done_must words _ _ names images done are told;
      files_later = end.files_later;
      host_later = end.host_later;
      out_later = end.out_later;
      err_later = end.err_later;
      second_out_later = end.second_out_later;
      second_err_later = end.second_err_later;
      out_steady = λ _. end.out_steady (no_stop _ _);
      err_steady = λ _. end.err_steady (no_stop _ _);
      second_out_steady = λ _. end.second_out_steady (no_stop _ _);
      second_err_steady = λ _. end.second_err_steady (no_stop _ _);
      files_stay = end.files_stay;
      fixed = end.fixed;
    }

-- ---- it came to no report

pub returns-in-Err : goal.returns-in-Err
returns-in-Err g c =
    let words = map string_bytes c.args.words.now in
    let put = c.put_refusal.ensures in
    let end = c.in-Err.ensures in
    record {
      statuses = put.statuses;
      never = fails_never_of words _ _ _ _ _ (λ other. (put.told other).1) end.fails;
      finished = λ ends. absurd (refusal_ends_not _ _ (put.told (ends_not_six _ ends)).1 ends);
      refused = λ a b d e. refused_as words _ _ _ _ _ _ put.later (put.told b) end.fails;
      six = λ six. cut_short words _ _ _ _ _ put.later end.err_later end.fails (put.sink six)
          (put.front six);
      words_refused = λ none a b. fails_none words _ _ _ _ _ (put.told a).1 end.fails none b;
      files_refused = λ names why are told a b d. fails_refused words _ _ _ why _ _ names
          (put.told b).1 end.fails are told a b d;
      done = λ names images are told a b d. absurd (fails_not words _ _ _ _ _ names images
          (put.told b).1 end.fails are told a b d);
      files_later = end.files_later;
      host_later = end.host_later;
      out_later = end.out_later;
      err_later = le_trans end.err_later put.later;
      second_out_later = end.second_out_later;
      second_err_later = end.second_err_later;
      out_steady = λ other. end.out_steady (no_sink _ _ (put.told other).0);
      err_steady = λ other. put.steady other ∙ end.err_steady (no_sink _ _ (put.told other).0);
      second_out_steady = λ other. end.second_out_steady (no_sink _ _ (put.told other).0);
      second_err_steady = λ other. end.second_err_steady (no_sink _ _ (put.told other).0);
      files_stay = end.files_stay;
      fixed = end.fixed;
    }
