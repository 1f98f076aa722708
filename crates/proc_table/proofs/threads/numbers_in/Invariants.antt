use Rattle.std.proofs.Common.{◌≡◌, map, take}
use Rattle.std.specs.Prelude.{◌==◌, filter}
use Rattle.proc_table.proofs.threads.numbers_in.Given as goal

abbrev pub invariant-loop-entry : goal.invariant-loop-entry
invariant-loop-entry l = l.numbers.items
    ≡ map (λ e. e.0) (filter (λ e. e.1.process == l.pid) (take l.entry-index l.live))
