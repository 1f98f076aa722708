-- How a write through a lent thread comes back.
use Rattle.std.specs.Prelude.{ℕ, List, Option, option_map}
use Rattle.std.specs.Borrow.{Lends, MutBor, Fml}
use Rattle.dos_world.specs.Numbered.{changed}
use Rattle.dos_world.specs.World.{Thread}
use Rattle.proc_table.specs.contracts.threads.Threads.{the_row}
use Rattle.proc_table.specs.contracts.thread.Thread.{the_row as thread_row}

-- the threads end with this one set to the last value behind r
abbrev pub LendsThread : MutBor (List (Option Thread)) → ℕ → MutBor Thread → Fml
LendsThread s tid r = Lends the_row thread_row s r (λ t. changed (option_map (λ _. t)) s.now tid)
