use Rattle.std.proofs.Common.{◌-◌}
use Rattle.worker_pool.specs.Ran.{budgets_left}
use Rattle.group_rounds.proofs.away.parallel_phase.Goals as goal

pub returns-clause-runs : goal.returns-clause-runs
returns-clause-runs g c = (
  budgets_left c.hand_out-handed.result.packs - budgets_left c.run_parts-ran.result.packs,
  c.take_in.ensures c.args.kernel c.hand_out-handed.result c.hand_out-handed.ensures
      c.run_parts-ran.ensures.runs,
  c.run_parts-ran.ensures.tally,
)
