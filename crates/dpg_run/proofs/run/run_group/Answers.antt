use Rattle.std.proofs.Common.{ℕ, List, Option, sym, ap, subst, ◌∙◌}
use Rattle.dos_io.specs.Borders.{BorderState}
use Rattle.dos_io.specs.Shims.{ShimState}
use Rattle.dpg_run.specs.GroupRuns.{RunsGroup}
use Rattle.dpg_run.proofs.run.run_group.Goals as goal

-- what a border of these shows
abbrev shown : ShimState → Option (List ℕ) → Option (List ℕ) → ℕ → ℕ → BorderState
shown shim out err outs errs = record {
  shim = shim;
  output = out;
  error = err;
  out_faults = outs;
  err_faults = errs;
}

pub returns : goal.returns
returns g c =
    let state = g.S.Shim.state in
    let out = g.O.Sink.told in
    let outs = g.O.Sink.faults in
    let err = g.E.Sink.told in
    let errs = g.E.Sink.faults in
    let last = c.run_over.new.border in
    let e = c.run_over.ensures in
    let shim_is = c.shim-1.given.1 (sym e.follows.0) in
    let out_is = c.out-1.given.1 (sym e.follows.1) in
    let err_is = c.err-1.given.1 (sym e.follows.2) in
    let runs = subst (λ (b : BorderState). RunsGroup c.args.kernel.now.config c.run_over.result
    c.args.kernel.now.state (shown (state c.args.shim.now) (out c.args.out.now) (err c.args.err.now)
    (outs c.args.out.now) (errs c.args.err.now)) c.run_over.new.kernel.state b
    c.run_over.new.kernel.failed (g.W.Workers.tally c.args.workers.now)
    (g.W.Workers.tally c.run_over.new.workers))
    (ap (λ x. shown (state x) (out last.out.now) (err last.err.now) (outs last.out.now)
    (errs last.err.now)) (sym shim_is)
    ∙ ap (λ x. shown (state c.shim-1.given.0) (out x) (err last.err.now) (outs x)
    (errs last.err.now)) (sym out_is)
    ∙ ap (λ x. shown (state c.shim-1.given.0) (out c.out-1.given.0) (err x)
    (outs c.out-1.given.0) (errs x)) (sym err_is)) e.runs in
    record {
      runs = runs.runs;
      sound = e.sound;
      limit = e.limit;
      asks = runs.asks;
      cut = runs.cut;
      grew = runs.grew;
      told_end = runs.told_end;
      config = e.config;
      failed = runs.failed;
      causes = runs.causes;
      out_steady = runs.out_steady;
      err_steady = runs.err_steady;
      follows = subst (g.S.Shim.follows c.args.shim.now) (sym shim_is) e.follows.3;
      fixed = e.fixed;
    }
