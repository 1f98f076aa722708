use Rattle.std.proofs.Common.{ap, sym, arith}
use Rattle.std.specs.Prelude.{option_and_then}
use Rattle.dos_world.specs.World.{holdings_of}
use Rattle.proc_table.proofs.Moved.{beyond}
use Rattle.debug_answers.proofs.processes.process_numbered.Goals as goal

pub returns-then-asked-from-clause-same : goal.returns-then-asked-from-clause-same
returns-then-asked-from-clause-same c q =
    sym (ap (option_and_then holdings_of)
    (beyond c.args.state.now.table.processes c.args.asked (omega arith)))
