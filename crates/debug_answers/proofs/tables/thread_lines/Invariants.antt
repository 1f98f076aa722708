use Rattle.std.proofs.Common.{◌≡◌, ◌++◌, ℕ, drop, map}
use Rattle.proc_table.specs.Spread.{living_from}
use Rattle.kernel_objects.specs.Pipework.{vector_bytes}
use Rattle.kernel_calls.specs.StateWorld.{world_of}
use Rattle.debug_session.specs.Tables.{thread_line}
use Rattle.debug_answers.proofs.tables.thread_lines.Given as goal

abbrev pub invariant-loop-place : goal.invariant-loop-place
invariant-loop-place l = (q : ℕ)
    → vector_bytes l.lines.items ++ map (λ e. thread_line (world_of q l.state) e.0 e.1)
    (drop l.place (living_from 1 l.state.table.threads))
    ≡ map (λ e. thread_line (world_of q l.state) e.0 e.1)
    (living_from 1 l.state.table.threads)
