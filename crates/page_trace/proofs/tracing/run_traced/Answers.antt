use Rattle.std.proofs.Common.{◌∙◌, ap, subst, sym}
use Rattle.group_rounds.specs.Kernels.{Held, IsBetweenRounds}
use Rattle.dpg_run.specs.GroupRuns.{RunsGroup}
use Rattle.dpg_run.proofs.RoundsRun.{between_here}
use Rattle.dpg_run.specs.Reached.{border_of}
use Rattle.page_trace.specs.Tracing.{Counts, OfRun, Traces, traced}
use Rattle.page_trace.proofs.Marked.{of_run_weaker, runs_marked, traces_marked}
use Rattle.page_trace.proofs.Rounds.{never_memory}
use Rattle.page_trace.proofs.tracing.run_traced.Goals as goal

pub trace_marked-requires-clause-running : goal.trace_marked-requires-clause-running
trace_marked-requires-clause-running g c = λ κs alive.
    ap (λ (k : Held). k.failed) c.in-Ok.ensures.ok ∙ c.requires.running

pub trace_marked-requires-clause-told : goal.trace_marked-requires-clause-told
trace_marked-requires-clause-told g c = λ κs alive. c.requires.told

pub trace_marked-requires-clause-marked : goal.trace_marked-requires-clause-marked
trace_marked-requires-clause-marked g c = λ κs alive.
    ap (λ (k : Held). k.state.frames.marked) c.in-Ok.ensures.ok
    ∙ sym (ap (λ (k : Held). k.state.frames.owners) c.in-Ok.ensures.ok)

pub returns-in-Ok : goal.returns-in-Ok
returns-in-Ok g c =
    let result = c.trace_marked.result in
    let is = c.in-Ok.ensures.ok in
    let e = c.trace_marked.ensures in
    let old = c.args.kernel.now in
    let new = c.trace_marked.new.kernel in
    let first = border_of (g.S.Shim.state c.args.shim.now) (g.O.Sink.told c.args.out.now)
    (g.E.Sink.told c.args.err.now) (g.O.Sink.faults c.args.out.now)
    (g.E.Sink.faults c.args.err.now) in
    let last = border_of (g.S.Shim.state c.trace_marked.new.shim)
    (g.O.Sink.told c.trace_marked.new.out) (g.E.Sink.told c.trace_marked.new.err)
    (g.O.Sink.faults c.trace_marked.new.out) (g.E.Sink.faults c.trace_marked.new.err) in
    let tally = g.W.Workers.tally c.args.workers.now in
    let tally' = g.W.Workers.tally c.trace_marked.new.workers in
    let before = traced (g.S.Shim.state c.args.shim.now).told (g.T.Sink.told c.args.lines.now) in
    let after = traced (g.S.Shim.state c.trace_marked.new.shim).told
    (g.T.Sink.told c.trace_marked.new.lines) in
    record {
      runs = of_run_weaker result _ _
          (λ ran h. runs_marked old.config ran old.state old.state.frames.owners first new.state
          last new.failed tally tally' h)
          (subst (λ (k : Held). OfRun result (λ ran. RunsGroup k.config ran k.state first new.state
          last new.failed tally tally')) is e.runs);
      traces = traces_marked old.config result old.state old.state.frames.owners new.state before
          after (subst (λ (k : Held). Traces k.config result k.state new.state before after) is
          e.traces);
      counted = λ fault. subst (λ (k : Held). Counts k.config k.state
          (g.S.Shim.state c.args.shim.now).told (g.S.Shim.state c.trace_marked.new.shim).told
          tally tally') is (e.counted fault);
      memory = never_memory result _ e.only;
      rested = never_memory result _ e.only;
      cause = e.cause;
      later = e.later;
      steady = e.steady;
      sound = e.sound;
      config = e.config ∙ ap (λ (k : Held). k.config) is;
      follows = e.follows;
      fixed = e.fixed;
    }

pub returns-in-Err-clause-sound : goal.returns-in-Err-clause-sound
returns-in-Err-clause-sound g c = λ running.
    subst (λ (k : Held). IsBetweenRounds k.state k.config) (sym c.in-Err.ensures.err)
    (between_here c.args.kernel.now.state c.state-state.result.now c.args.kernel.now.config
    c.state-state.ensures.state
    (c.state-state.ensures.sound (sym (ap (λ (k : Held). k.failed) c.in-Err.ensures.err)
    ∙ running)))
