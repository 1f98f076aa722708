-- What is known of a caller, in a state of any lawful world.
use Rattle.std.proofs.Common.{◌≡◌, ℕ, List, [], length, Option, Some, None, IsSome, IfSome, refl}
use Rattle.std.proofs.Common.{sym, ap, subst}
use Rattle.dos_world.specs.Lawful.{AreHoldings}
use Rattle.dos_world.specs.World.{Holdings}
use Rattle.dos_world.specs.declared.Entry.{Entry}
use Rattle.dos_laws.proofs.Mapped.{some_is, held_all}
use Rattle.proc_table.specs.Tables.{IsProcess, held_in, thread_in}
use Rattle.kernel_mem.specs.MemoryWorld.{IsCaller, space_in}
use Rattle.kernel_mem.proofs.Children.{of-process}
use Rattle.kernel_calls.specs.StateWorld.{IsSound}
use Rattle.kernel_calls.specs.CallResults.{AreAsked}
use Rattle.kernel_calls.specs.declared.state.State.{State}
use Rattle.kernel_calls.specs.declared.state.Asked.{Asked}
use Rattle.kernel_calls.proofs.Keeping.{caller, lawful_now}
use Rattle.kernel_calls.proofs.ProcessEnds.{named}
use Rattle.kernel_calls.specs.Ending.{AreNamed}

-- what a process has that lives: its space, and what is so of it in a lawful world
pub record Has (s : State) (p : ℕ) : Type 0 where
  pub holdings : Holdings
  pub is : held_in s.table.processes p ≡ Some holdings
  pub space : space_in s.table p ≡ holdings.space
  pub are : AreHoldings (length s.frames.owners) holdings

pub has : (s : State) (p : ℕ) → IsSound s → IsProcess s.table.processes p → Has s p
has s p sound live =
    let is = some_is (held_in s.table.processes p) live in
    record {
      holdings = is.0;
      is = is.1;
      space = ap (λ o. elim o as (λ _. List (ℕ × Entry)) [ None ↦ [] | Some h ↦ h.space ]) is.1;
      are = held_all (AreHoldings (length s.frames.owners)) s.table.processes p is.0
          (lawful_now s sound).processes.holdings is.1;
    }

-- its descriptors name ends that are there
pub names_ends : (s : State) (p : ℕ) → IsSound s → (x : Has s p)
    → AreNamed x.holdings.descriptors s.pipes
names_ends s p sound x =
    subst (λ (o : Option Holdings). IfSome o (λ h. AreNamed h.descriptors s.pipes)) x.is
    (named s sound p 0 (subst (λ (o : Option Holdings). IsSome o) (sym x.is) refl))

-- ---- a call

module _ (s : State) (a : Asked) (sound : IsSound s) (asked : AreAsked s a) where
  pub calls : IsCaller s.table a.thread
  calls = caller s sound a.thread asked.live

  -- what is so of the process of the caller is so of the one that is said
  pub of-caller : (P : ℕ → Type 0)
      → IfSome (thread_in s.table.threads a.thread) (λ thread. P thread.process) → P a.process
  of-caller P h =
      of-process P (thread_in s.table.threads a.thread) a.process asked.live asked.process h

  pub process_lives : IsProcess s.table.processes a.process
  process_lives = of-caller (λ p. IsProcess s.table.processes p) calls.process
