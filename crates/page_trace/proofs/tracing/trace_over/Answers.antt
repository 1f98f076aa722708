use Rattle.page_trace.specs.Tracing.{traced_at}
use Rattle.page_trace.proofs.Rounds.{never_fault, no_fault, of_run_cause, of_run_only, over_counts}
use Rattle.page_trace.proofs.Rounds.{over_only, over_runs, over_traces}
use Rattle.page_trace.proofs.tracing.trace_over.Goals as goal

pub trace_rounds-requires-clause-running : goal.trace_rounds-requires-clause-running
trace_rounds-requires-clause-running g c = λ κs alive. c.requires.running

pub trace_rounds-requires-clause-told : goal.trace_rounds-requires-clause-told
trace_rounds-requires-clause-told g c = λ κs alive. c.requires.told

pub trace_rounds-requires-clause-marked : goal.trace_rounds-requires-clause-marked
trace_rounds-requires-clause-marked g c = λ κs alive. c.requires.marked

pub end_run-requires : goal.end_run-requires
end_run-requires g c = c.in-Ok.ensures.told

pub returns-in-Ok : goal.returns-in-Ok
returns-in-Ok g c =
    let rounds = c.in-Ok.ensures in
    let ended = c.end_run.ensures.runs in
    let b = g.B.Border.state c.args.border.now in
    record {
      runs = ended.runs c.args.kernel.now.config c.args.kernel.now.state b
          (g.W.Workers.tally c.args.workers.now) (g.W.Workers.tally c.trace_rounds.new.workers)
          rounds.failed rounds.traces.plays;
      traces = ended.traces c.args.kernel.now.config c.args.kernel.now.state b
          (g.W.Workers.tally c.args.workers.now) (g.W.Workers.tally c.trace_rounds.new.workers)
          rounds.failed rounds.traces.plays (traced_at b (g.T.Sink.told c.args.lines.now))
          (g.T.Sink.told c.trace_rounds.new.lines) rounds.traces.lines;
      counted = never_fault c.end_run.result _ ended.stops;
      only = of_run_only c.end_run.result ended.stops;
      cause = of_run_cause c.end_run.result _ _ ended.stops;
      later = c.trace_rounds.ensures.later;
      steady = λ _. rounds.steady (no_fault _);
      sound = c.trace_rounds.ensures.sound;
      config = c.trace_rounds.ensures.config;
      follows = g.met.B.Border.transitive _ _ _ c.trace_rounds.ensures.follows
          c.end_run.ensures.follows;
      fixed = c.trace_rounds.ensures.fixed;
    }

pub returns-in-Err : goal.returns-in-Err
returns-in-Err g c =
    let rounds = c.in-Err.ensures in
    record {
      runs = over_runs c.args.kernel.now.config c.args.kernel.now.state
          c.trace_rounds.new.kernel.state _ _ _ _ _ _ c.trace_rounds.new.kernel.failed
          c.in-Err.stop rounds.failed rounds.traces;
      traces = over_traces c.args.kernel.now.config c.args.kernel.now.state
          c.trace_rounds.new.kernel.state _ _ _ _ _ _ c.trace_rounds.new.kernel.failed
          c.in-Err.stop rounds.traces;
      counted = over_counts c.args.kernel.now.config c.args.kernel.now.state
          c.trace_rounds.new.kernel.state _ _ _ _ _ _ c.trace_rounds.new.kernel.failed
          c.in-Err.stop rounds.traces;
      only = over_only c.args.kernel.now.config c.args.kernel.now.state
          c.trace_rounds.new.kernel.state _ _ _ _ _ _ c.trace_rounds.new.kernel.failed
          c.in-Err.stop rounds.traces;
      cause = rounds.cause;
      later = c.trace_rounds.ensures.later;
      steady = rounds.steady;
      sound = c.trace_rounds.ensures.sound;
      config = c.trace_rounds.ensures.config;
      follows = c.trace_rounds.ensures.follows;
      fixed = c.trace_rounds.ensures.fixed;
    }
