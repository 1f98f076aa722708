use Rattle.proc_table.proofs.Standing.{placed_none, none_standing}
use Rattle.proc_table.proofs.processes.Processes.reserve.Goals as goal

pub invariant_of-result : goal.invariant_of-result
invariant_of-result c = placed_none _ _ _ c.args.frames c.in_ok-reserve.ensures
    c.in_ok-empty_spaces.ensures c.in_ok-new_belongings.ensures

pub returns : goal.returns
returns c = none_standing _ _ _ c.args.frames c.in_ok-reserve.ensures
