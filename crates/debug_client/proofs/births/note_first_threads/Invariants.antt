use Rattle.std.proofs.Common.{◌≡◌, ◌++◌, length}
use Rattle.debug_client.specs.Births.{firsts_behind}
use Rattle.debug_client.proofs.births.note_first_threads.Given as goal

abbrev pub invariant-loop-place : goal.invariant-loop-place
invariant-loop-place l =
    l.firsts.items ++ firsts_behind l.place l.table.processes l.table.threads
    ≡ l.fn.firsts.items
    ++ firsts_behind (length l.fn.firsts.items) l.table.processes l.table.threads
