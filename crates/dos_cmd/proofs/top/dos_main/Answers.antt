use Rattle.std.proofs.Common.{ap, inl, le_trans, map, string_bytes, ◌∙◌}
use Rattle.dos_texts.specs.Exit.{refusal_status}
use Rattle.dos_texts.proofs.Statuses.{refusal_ends_not}
use Rattle.dos_cmd.proofs.Calls.{status_ends, ends_not_six, ends_or_not, finished_as}
use Rattle.dos_cmd.proofs.Calls.{finished_not_none, finished_not_refused, finished_must, fails_none}
use Rattle.dos_cmd.proofs.Calls.{fails_refused, fails_must, refused_as, cut_short}
use Rattle.dos_cmd.proofs.Joins.{joins}
use Rattle.dos_cmd.proofs.Repeats.{repeats}
use Rattle.dos_cmd.proofs.Steady.{no_host, no_sink, no_stop}
use Rattle.dos_cmd.proofs.top.dos_main.Goals as goal

-- ---- it did what it was asked for

pub returns-in-Ok : goal.returns-in-Ok
returns-in-Ok g c = record {
  statuses = inl (c.in-Ok.ending, c.ending_status.ensures);
  finished = λ _. finished_as _ _ _ _ c.ending_status.ensures c.in-Ok.ensures.finished;
  asked = λ _. c.in-Ok.ensures.asked;
  refused = λ a b d e. absurd (ends_or_not _ (status_ends _ _ c.ending_status.ensures) a d e);
  six = λ six. absurd (ends_not_six _ (status_ends _ _ c.ending_status.ensures) six);
  words_refused = λ none a b. absurd (finished_not_none (map string_bytes c.args.words.now) _ _
      c.in-Ok.ensures.finished none);
  files_refused = λ asked why ask told a b d. absurd (finished_not_refused _ _ _ asked why
      c.in-Ok.ensures.finished ask told);
  done = λ asked taken ask told a b d. finished_must _ _ _ asked taken (finished_as _ _ _ _
      c.ending_status.ensures c.in-Ok.ensures.finished) ask told;
  replays = λ earlier status run did same a b d. repeats earlier (map string_bytes
      c.args.words.now) status _ run _ did same (λ asked taken ask told. finished_must _ _ _ asked
      taken (finished_as _ _ _ _ c.ending_status.ensures c.in-Ok.ensures.finished) ask told);
  joins = λ log images round status to save whole saved replayed of a b d. joins (map string_bytes
      c.args.words.now) log images round status _ to save whole _ saved replayed of
      (λ asked taken ask told. finished_must _ _ _ asked taken (finished_as _ _ _ _
      c.ending_status.ensures c.in-Ok.ensures.finished) ask told);
  files_later = c.command.ensures.files_later;
  host_later = c.command.ensures.host_later;
  host_steady = λ _ _. c.in-Ok.ensures.host_steady (no_stop _ _);
  out_later = c.command.ensures.out_later;
  err_later = c.command.ensures.err_later;
  out_steady = λ _. c.in-Ok.ensures.out_steady (no_stop _ _);
  err_steady = λ _. c.in-Ok.ensures.err_steady (no_stop _ _);
  fixed = c.command.ensures.fixed;
}

-- ---- it came to no report

pub returns-in-Err : goal.returns-in-Err
unfolding refusal_status
returns-in-Err g c = record {
  statuses = c.put_refusal.ensures.statuses;
  finished = λ ends. absurd (refusal_ends_not _ _ (c.put_refusal.ensures.told (ends_not_six _
      ends)).1 ends);
  asked = λ ends. absurd (refusal_ends_not _ _ (c.put_refusal.ensures.told (ends_not_six _
      ends)).1 ends);
  refused = λ a b d e. refused_as _ _ _ _ _ _ _ c.put_refusal.ensures.later
      (c.put_refusal.ensures.told b) c.in-Err.ensures.fails c.in-Err.ensures.asked;
  six = λ six. cut_short _ _ _ _ _ _ c.put_refusal.ensures.later c.in-Err.ensures.err_later
      c.in-Err.ensures.fails (c.put_refusal.ensures.sink six) (c.put_refusal.ensures.front six)
      c.in-Err.ensures.asked;
  words_refused = λ none a b. fails_none (map string_bytes c.args.words.now) _ _ _ _ _
      (c.put_refusal.ensures.told a).1 c.in-Err.ensures.fails none b;
  files_refused = λ asked why ask told a b d. fails_refused (map string_bytes c.args.words.now) _ _
      _ why _ _ asked (c.put_refusal.ensures.told b).1 c.in-Err.ensures.fails ask told a b d;
  done = λ asked taken ask told a b d. let r = refused_as (map string_bytes c.args.words.now) _ _ _
      _ _ _ c.put_refusal.ensures.later (c.put_refusal.ensures.told b) c.in-Err.ensures.fails
      c.in-Err.ensures.asked in
      fails_must (map string_bytes c.args.words.now) _ _ _ _ asked taken r.status_is r.fails ask
      told a b d;
  replays = λ earlier status run did same a b d. let r = refused_as (map string_bytes
      c.args.words.now) _ _ _ _ _ _ c.put_refusal.ensures.later (c.put_refusal.ensures.told b)
      c.in-Err.ensures.fails c.in-Err.ensures.asked in
      repeats earlier (map string_bytes c.args.words.now) status _ run _ did same
      (λ asked taken ask told. fails_must (map string_bytes c.args.words.now) _ _ _ _ asked taken
      r.status_is r.fails ask told a b d);
  joins = λ log images round status to save whole saved replayed of a b d. let r = refused_as (map
      string_bytes c.args.words.now) _ _ _ _ _ _ c.put_refusal.ensures.later
      (c.put_refusal.ensures.told b) c.in-Err.ensures.fails c.in-Err.ensures.asked in
      joins (map string_bytes c.args.words.now) log images round status _ to save whole _ saved
      replayed of
      (λ asked taken ask told. fails_must (map string_bytes c.args.words.now) _ _ _ _ asked taken
      r.status_is r.fails ask told a b d);
  files_later = c.command.ensures.files_later;
  host_later = c.command.ensures.host_later;
  host_steady = λ five six. c.in-Err.ensures.host_steady (no_host _ _
      (λ is. five ((c.put_refusal.ensures.told six).1 ∙ ap refusal_status is)));
  out_later = c.command.ensures.out_later;
  err_later = le_trans c.command.ensures.err_later c.put_refusal.ensures.later;
  out_steady = λ other. c.in-Err.ensures.out_steady (no_sink _ _
      (c.put_refusal.ensures.told other).0);
  err_steady = λ other. c.put_refusal.ensures.steady other ∙ c.in-Err.ensures.err_steady
      (no_sink _ _ (c.put_refusal.ensures.told other).0);
  fixed = c.command.ensures.fixed;
}
