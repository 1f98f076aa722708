use Rattle.std.proofs.Common.{◌≡◌, drop}
use Rattle.debug_client.specs.Births.{has_processes}
use Rattle.debug_client.proofs.births.Births.has_processes.Given as goal

abbrev pub invariant-loop-process : goal.invariant-loop-process
invariant-loop-process l =
    has_processes l.self (drop l.process-index l.processes) ≡ has_processes l.self l.processes
