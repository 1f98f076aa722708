use Rattle.std.proofs.Common.{sym, ap, subst, ◌∙◌}
use Rattle.dos_io.specs.Borders.{BorderState}
use Rattle.dpg_run.specs.GroupRuns.{RunsGroup}
use Rattle.dpg_run.specs.Reached.{border_of}
use Rattle.page_trace.specs.Tracing.{Counts, OfRun, Traces, traced}
use Rattle.page_trace.proofs.tracing.trace_marked.Goals as goal

pub returns : goal.returns
returns g c =
    let state = g.S.Shim.state in
    let out = g.O.Sink.told in
    let outs = g.O.Sink.faults in
    let err = g.E.Sink.told in
    let errs = g.E.Sink.faults in
    let last = c.trace_over.new.border in
    let e = c.trace_over.ensures in
    let shim_is = c.shim-1.given.1 (sym e.follows.0) in
    let out_is = c.out-1.given.1 (sym e.follows.1) in
    let err_is = c.err-1.given.1 (sym e.follows.2) in
    record {
      runs = subst (λ (b : BorderState). OfRun c.trace_over.result (λ ran. RunsGroup
          c.args.kernel.now.config ran c.args.kernel.now.state (border_of (state c.args.shim.now)
          (out c.args.out.now) (err c.args.err.now) (outs c.args.out.now) (errs c.args.err.now))
          c.trace_over.new.kernel.state b c.trace_over.new.kernel.failed
          (g.W.Workers.tally c.args.workers.now) (g.W.Workers.tally c.trace_over.new.workers)))
          (ap (λ x. border_of (state x) (out last.out.now) (err last.err.now) (outs last.out.now)
          (errs last.err.now)) (sym shim_is)
          ∙ ap (λ x. border_of (state c.shim-1.given.0) (out x) (err last.err.now) (outs x)
          (errs last.err.now)) (sym out_is)
          ∙ ap (λ x. border_of (state c.shim-1.given.0) (out c.out-1.given.0) (err x)
          (outs c.out-1.given.0) (errs x)) (sym err_is)) e.runs;
      traces = subst (λ x. Traces c.args.kernel.now.config c.trace_over.result
          c.args.kernel.now.state c.trace_over.new.kernel.state
          (traced (state c.args.shim.now).told (g.T.Sink.told c.args.lines.now))
          (traced (state x).told (g.T.Sink.told c.trace_over.new.lines))) (sym shim_is) e.traces;
      counted = λ is. subst (λ x. Counts c.args.kernel.now.config c.args.kernel.now.state
          (state c.args.shim.now).told (state x).told (g.W.Workers.tally c.args.workers.now)
          (g.W.Workers.tally c.trace_over.new.workers)) (sym shim_is) (e.counted is);
      only = e.only;
      cause = e.cause;
      later = e.later;
      steady = e.steady;
      sound = e.sound;
      config = e.config;
      follows = subst (g.S.Shim.follows c.args.shim.now) (sym shim_is) e.follows.3;
      fixed = e.fixed;
    }
