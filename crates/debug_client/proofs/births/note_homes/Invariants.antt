use Rattle.std.proofs.Common.{◌≡◌, ◌++◌, length}
use Rattle.debug_client.specs.Births.{homes_behind}
use Rattle.debug_client.proofs.births.note_homes.Given as goal

abbrev pub invariant-loop-place : goal.invariant-loop-place
invariant-loop-place l =
    l.homes.items ++ homes_behind l.place l.table.threads
    ≡ l.fn.homes.items ++ homes_behind (length l.fn.homes.items) l.table.threads
