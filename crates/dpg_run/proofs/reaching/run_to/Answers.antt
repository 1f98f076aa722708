use Rattle.std.proofs.Common.{ℕ, List, Option, sym, ap, subst, ◌∙◌}
use Rattle.dos_io.specs.Borders.{BorderState}
use Rattle.dpg_run.specs.Reached.{ArrivesAt, border_of}
use Rattle.dpg_run.proofs.reaching.run_to.Goals as goal

pub returns : goal.returns
returns g c =
    let state = g.S.Shim.state in
    let out = g.O.Sink.told in
    let outs = g.O.Sink.faults in
    let err = g.E.Sink.told in
    let errs = g.E.Sink.faults in
    let last = c.run_until.new.border in
    let e = c.run_until.ensures in
    let shim_is = c.shim-1.given.1 (sym e.follows.0) in
    let out_is = c.out-1.given.1 (sym e.follows.1) in
    let err_is = c.err-1.given.1 (sym e.follows.2) in
    record {
      reaches = subst (λ (b : BorderState). ArrivesAt c.args.kernel.now.config c.args.round
          c.run_until.result c.args.kernel.now.state
          (border_of (state c.args.shim.now) (out c.args.out.now) (err c.args.err.now)
          (outs c.args.out.now) (errs c.args.err.now)) c.run_until.new.kernel.state b
          c.run_until.new.kernel.failed (g.W.Workers.tally c.args.workers.now)
          (g.W.Workers.tally c.run_until.new.workers))
          (ap (λ x. border_of (state x) (out last.out.now) (err last.err.now) (outs last.out.now)
          (errs last.err.now)) (sym shim_is)
          ∙ ap (λ x. border_of (state c.shim-1.given.0) (out x) (err last.err.now) (outs x)
          (errs last.err.now)) (sym out_is)
          ∙ ap (λ x. border_of (state c.shim-1.given.0) (out c.out-1.given.0) (err x)
          (outs c.out-1.given.0) (errs x)) (sym err_is)) e.reaches;
      sound = e.sound;
      config = e.config;
      follows = subst (g.S.Shim.follows c.args.shim.now) (sym shim_is) e.follows.3;
      fixed = e.fixed;
    }
