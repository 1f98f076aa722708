use Rattle.std.proofs.Common.{◌≡◌, ◌≤◌, ◌+◌, None, Ok, false}
use Rattle.dos_io.specs.Shims.{HasNoEnd}
use Rattle.group_rounds.specs.Kernels.{IsBetweenRounds}
use Rattle.dpg_run.specs.GroupRuns.{PlaysSome}
use Rattle.page_trace.specs.Tracing.{traced_at}
use Rattle.page_trace.proofs.Traced.{TracedSome}
use Rattle.page_trace.proofs.tracing.trace_rounds.Given as goal

abbrev pub invariant-loop-round : goal.invariant-loop-round
invariant-loop-round g l = record {
  some : PlaysSome l.fn.kernel.config (Ok None) l.fn.kernel.state (g.B.Border.state l.fn.border)
      l.kernel.state (g.B.Border.state l.border) (g.W.Workers.tally l.fn.workers)
      (g.W.Workers.tally l.workers);
  traced : TracedSome l.fn.kernel.config l.fn.kernel.state
      (traced_at (g.B.Border.state l.fn.border) (g.T.Sink.told l.fn.lines)) l.kernel.state
      (traced_at (g.B.Border.state l.border) (g.T.Sink.told l.lines));
  running : l.kernel.failed ≡ false;
  round : l.kernel.state.round ≡ l.fn.kernel.state.round + l._round;
  sound : IsBetweenRounds l.kernel.state l.kernel.config;
  config : l.kernel.config ≡ l.fn.kernel.config;
  told : HasNoEnd (g.B.Border.state l.border).shim.told;
  marked : l.kernel.state.frames.marked ≡ l.kernel.state.frames.owners;
  later : g.T.Sink.faults l.fn.lines ≤ g.T.Sink.faults l.lines;
  steady : g.T.Sink.faults l.lines ≡ g.T.Sink.faults l.fn.lines;
  follows : g.B.Border.follows l.fn.border l.border;
  fixed : g.W.Workers.fixed l.workers ≡ g.W.Workers.fixed l.fn.workers;
}
