use Rattle.std.proofs.Common.{◌≡◌, ◌≤◌, take, IfSome}
use Rattle.std.specs.Prelude.{count_by, is_none}
use Rattle.proc_table.specs.Tables.{held_in}
use Rattle.kernel_calls.proofs.descriptors.free_descriptors.Given as goal

-- those so far are counted
abbrev pub invariant-loop-number : goal.invariant-loop-number
invariant-loop-number l =
    (l.free ≤ l.number)
    × IfSome (held_in l.table.processes l.pid)
    (λ h. l.free ≡ count_by is_none (take l.number h.descriptors))
