use Rattle.std.proofs.Common.{◌≡◌, ◌≤◌, ◌+◌, ◌-◌, None, Ok, false}
use Rattle.dos_io.specs.Shims.{HasNoEnd}
use Rattle.group_rounds.specs.Kernels.{IsBetweenRounds}
use Rattle.dpg_run.specs.GroupRuns.{PlaysSome, limited_by}
use Rattle.dpg_run.specs.Reaching.{RunsOn}
use Rattle.dpg_run.proofs.run.run_some.Given as goal

abbrev pub invariant-loop-round : goal.invariant-loop-round
invariant-loop-round g l = record {
  some : PlaysSome l.fn.kernel.config (Ok None) l.fn.kernel.state (g.B.Border.state l.fn.border)
      l.kernel.state (g.B.Border.state l.border) (g.W.Workers.tally l.fn.workers)
      (g.W.Workers.tally l.workers);
  limited : PlaysSome (limited_by (l.fn.kernel.state.round - 1 + l.fn.rounds) l.fn.kernel.config)
      (Ok None) l.fn.kernel.state (g.B.Border.state l.fn.border) l.kernel.state
      (g.B.Border.state l.border) (g.W.Workers.tally l.fn.workers)
      (g.W.Workers.tally l.workers);
  on : RunsOn l.fn.kernel.config l._round l.fn.kernel.state (g.B.Border.state l.fn.border)
      l.kernel.state (g.B.Border.state l.border);
  running : l.kernel.failed ≡ false;
  round : l.kernel.state.round ≡ l.fn.kernel.state.round + l._round;
  few : l._round ≤ l.fn.rounds;
  marked : l.kernel.state.frames.marked ≡ l.fn.kernel.state.frames.marked;
  sound : IsBetweenRounds l.kernel.state l.kernel.config;
  config : l.kernel.config ≡ l.fn.kernel.config;
  told : HasNoEnd (g.B.Border.state l.border).shim.told;
  follows : g.B.Border.follows l.fn.border l.border;
  fixed : g.W.Workers.fixed l.workers ≡ g.W.Workers.fixed l.fn.workers;
}
