use Rattle.std.proofs.Common.{inr, le_refl, map, refl, string_bytes, ◌∙◌}
use Rattle.std.proofs.lemmas.Result.{err_from_is_err_and}
use Rattle.dos_twin.specs.TwinOutside.{TwinFaults, TwinOutside, twin_faults, twin_outside}
use Rattle.dos_twin.proofs.TwinCalls.{done_by, fails_by, not_opened_leaves, words_not_read}
use Rattle.dos_twin.proofs.TwinEnds.{is_err_of}
use Rattle.dos_twin.proofs.TwinSaying.{says_nothing}
use Rattle.dos_twin.proofs.top.twin.Goals as goal

pub returns-in_err-names : goal.returns-in_err-names
returns-in_err-names g c =
    let p = err_from_is_err_and c.from_residual.result c.from_residual.ensures.1 in
    let read = c.in_err-names.ensures in
    rw (p.1, p.2) (record {
      finished = tt;
      fails = words_not_read (map string_bytes c.args.words.now) _ _ _ read.refused read.only
          (says_nothing _ refl refl refl refl (λ n. refl) refl refl);
      files_later = le_refl _;
      host_later = le_refl _;
      out_later = le_refl _;
      err_later = le_refl _;
      second_out_later = le_refl _;
      second_err_later = le_refl _;
      out_steady = λ _. refl;
      err_steady = λ _. refl;
      second_out_steady = λ _. refl;
      second_err_steady = λ _. refl;
      files_stay = λ n. refl;
      fixed = refl;
    })

pub returns-in_err-first : goal.returns-in_err-first
returns-in_err-first g c =
    let p = err_from_is_err_and c.from_residual-in_err-first.result
    c.from_residual-in_err-first.ensures.1 in
    let opening = c.in_err-first.ensures in
    rw (p.1, p.2) (record {
      finished = tt;
      fails = inr (inr (
        c.in_ok-names.names,
        c.in_ok-names.ensures.names,
        not_opened_leaves c.in_ok-names.names _ _ _ opening.refused
            (λ e. opening.fault (is_err_of _ _ e))
            (says_nothing _ refl refl refl refl opening.stays refl refl),
      ));
      files_later = opening.later;
      host_later = le_refl _;
      out_later = le_refl _;
      err_later = le_refl _;
      second_out_later = le_refl _;
      second_err_later = le_refl _;
      out_steady = λ _. refl;
      err_steady = λ _. refl;
      second_out_steady = λ _. refl;
      second_err_steady = λ _. refl;
      files_stay = opening.stays;
      fixed = refl;
    })

pub returns : goal.returns
returns g c =
    let opening = c.in_ok-first.ensures in
    let are = c.in_ok-names.ensures.names in
    let names = c.in_ok-names.names in
    let end = c.run_opened.ensures in
    let o : TwinOutside = twin_outside (g.F.Files.content c.args.files.now)
    (g.F.Files.content c.open_named.new.files) (g.H.Host.told c.args.host.now)
    (g.H.Host.told c.run_opened.new.host) (g.O.Sink.told c.args.out.now)
    (g.O.Sink.told c.run_opened.new.out) (g.E.Sink.told c.args.err.now)
    (g.E.Sink.told c.run_opened.new.err) (g.P.Sink.told c.args.second_out.now)
    (g.P.Sink.told c.run_opened.new.second_out) (g.Q.Sink.told c.args.second_err.now)
    (g.Q.Sink.told c.run_opened.new.second_err) (g.W.Workers.tally c.hire.new.self)
    (g.W.Workers.tally c.run_opened.new.workers) in
    let f : TwinFaults = twin_faults (g.F.Files.faults c.args.files.now)
    (g.F.Files.faults c.open_named.new.files) (g.H.Host.faults c.args.host.now)
    (g.H.Host.faults c.run_opened.new.host) (g.O.Sink.faults c.args.out.now)
    (g.O.Sink.faults c.run_opened.new.out) (g.E.Sink.faults c.args.err.now)
    (g.E.Sink.faults c.run_opened.new.err) (g.P.Sink.faults c.args.second_out.now)
    (g.P.Sink.faults c.run_opened.new.second_out) (g.Q.Sink.faults c.args.second_err.now)
    (g.Q.Sink.faults c.run_opened.new.second_err) in
    record {
      finished = done_by c.run_opened.result (map string_bytes c.args.words.now) names o
          (g.W.Workers.tally c.args.workers.now) c.in_ok-first.first c.in_ok-first.second are
          c.hire.ensures.tally opening.stays opening.opened end.did;
      fails = fails_by c.run_opened.result (map string_bytes c.args.words.now) names o f
          (g.W.Workers.tally c.args.workers.now) c.in_ok-first.first c.in_ok-first.second are
          c.hire.ensures.tally opening.stays opening.opened end.leaves;
      files_later = opening.later;
      host_later = end.host_later;
      out_later = end.out_later;
      err_later = end.err_later;
      second_out_later = end.second_out_later;
      second_err_later = end.second_err_later;
      out_steady = λ other. (end.steady other).0;
      err_steady = λ other. (end.steady other).1;
      second_out_steady = λ other. (end.steady other).2;
      second_err_steady = λ other. (end.steady other).3;
      files_stay = opening.stays;
      fixed = end.fixed ∙ c.hire.ensures.fixed;
    }
