-- A call in a lawful world: its thread lives, and its numbers are in range.
use Rattle.std.proofs.Common.{ℕ, zero, suc, ◌≤◌, ◌≡◌, refl, sym, ap, ◌∙◌, subst, true, List, []}
use Rattle.std.proofs.Common.{◌∷◌, length, Option, Some, None, option_map, arith}
use Rattle.std.specs.Prelude.{slice_get, option_and_then, is_some, IsTrue, IsFalse, IfSome, All}
use Rattle.std.proofs.lemmas.Bool.{lt-ltb, true≢false}
use Rattle.std.proofs.lemmas.List.Elements.{All-head, All-tail}
use Rattle.dos_world.specs.Numbered.{numbered}
use Rattle.dos_world.specs.World.{World, Process, Holdings, Thread, flat, thread_at, live_process}
use Rattle.dos_world.specs.World.{holdings_of, all_holdings, has_bit}
use Rattle.dos_world.specs.Calls.{Call, call_of, charged, mask_of}
use Rattle.dos_world.specs.Lawful.{Lawful, IsThread, AreHoldings, IsAction}
use Rattle.dos_world.proofs.Numbers.{length-changed, changed_there}
use Rattle.dos_world.proofs.Caller.{has_a0, lives, lives-changed}

-- what converse laws ask of a call
pub record IsUsual (c : Call) : Type 0 where
  pub alive : IsTrue (lives c.world.threads c.thread)
  pub thread : c.thread ≤ 65535
  pub process : c.process ≤ 65535
  pub threads : length c.world.threads ≤ 65535
  pub processes : length c.world.processes ≤ 65535
  pub rounds : c.world.rounds ≤ 1000000
  pub mask : IsFalse (has_bit (mask_of c) 9)
  pub holdings : Holdings
  pub live : live_process c.world c.process ≡ Some holdings
  pub actions : All IsAction holdings.actions
  pub descriptors : length holdings.descriptors ≡ 32

thread-within : (threads : List (Option Thread)) (t : ℕ) (thread : Thread)
    → flat (numbered threads t) ≡ Some thread → t ≤ length threads
thread-within threads zero thread e = omega arith
thread-within threads (suc i) thread e = walk threads i e
  where
    walk : (threads : List (Option Thread)) (i : ℕ) → flat (slice_get threads i) ≡ Some thread
        → suc i ≤ length threads
    walk [] i e = absurd cc
    walk (x ∷ threads) zero e = omega arith
    walk (x ∷ threads) (suc i) e = let rest = walk threads i e in omega (arith, rest)

process-within : (processes : List Process) (p : ℕ)
    → IsTrue (is_some (option_and_then holdings_of (numbered processes p))) → p ≤ length processes
process-within processes zero e = omega arith
process-within processes (suc i) e = walk processes i e
  where
    walk : (processes : List Process) (i : ℕ)
        → IsTrue (is_some (option_and_then holdings_of (slice_get processes i)))
        → suc i ≤ length processes
    walk [] i e = absurd (true≢false (sym e))
    walk (x ∷ processes) zero e = omega arith
    walk (x ∷ processes) (suc i) e = let rest = walk processes i e in omega (arith, rest)

-- what holds of all that is had holds of what this process has
pub held_all : (P : Holdings → Type 0) (ps : List Process) (p : ℕ) (h : Holdings)
    → All P (all_holdings ps) → option_and_then holdings_of (numbered ps p) ≡ Some h → P h
held_all P ps zero h all e = absurd cc
held_all P ps (suc i) h all e = walk ps i all e
  where
    by_first : (o : Option Holdings) (rest : List Holdings)
        → All P (elim o as (λ _. List Holdings) [ None ↦ rest | Some k ↦ k ∷ rest ]) → All P rest
    by_first None rest all = all
    by_first (Some k) rest all = All-tail P k rest all

    walk : (ps : List Process) (i : ℕ) → All P (all_holdings ps)
        → option_and_then holdings_of (slice_get ps i) ≡ Some h → P h
    walk [] i all e = absurd cc
    walk (x ∷ ps) zero all e =
        All-head P h (all_holdings ps)
        (subst (λ o. All P
        (elim o as (λ _. List Holdings) [
          | None ↦ all_holdings ps
          | Some k ↦ k ∷ all_holdings ps
        ])) e all)
    walk (x ∷ ps) (suc i) all e = walk ps i (by_first (holdings_of x) (all_holdings ps) all) e

some_is : {A : Type 0} (o : Option A) → IsTrue (is_some o) → (x : A) × (o ≡ Some x)
some_is None h = absurd (true≢false (sym h))
some_is (Some x) h = (x, refl)

-- t's call in a lawful world
pub usual : (w : World) (t : ℕ) (thread : Thread) → Lawful w → thread_at w t ≡ Some thread
    → IsUsual (call_of w t thread)
usual w t thread law is =
    let ranges : IsThread w.processes thread =
    subst (λ o. IfSome o (IsThread w.processes)) is (law.threads.ranges t) in
    let here = some_is (live_process w thread.process) ranges.process in
    let held : AreHoldings (length w.owners) here.0 =
    held_all (AreHoldings (length w.owners)) w.processes thread.process here.0
    law.processes.holdings here.1 in
    let count : length (call_of w t thread).world.threads ≡ length w.threads =
    length-changed (option_map charged) w.threads t in
    let few_threads : length w.threads ≤ 65535 = law.limits.threads.1 in
    let few_processes : length w.processes ≤ length w.threads = law.processes.given.1 in
    let thread_in : t ≤ length w.threads = thread-within w.threads t thread is in
    let process_in : thread.process ≤ length w.processes =
    process-within w.processes thread.process ranges.process in
    let now : thread_at (call_of w t thread).world t ≡ Some (charged thread) =
    changed_there charged w.threads t ∙ ap (option_map charged) is in
    let a0_there : has_a0 (Some thread) ≡ true =
    lt-ltb 10 (length thread.registers.numbers) (omega (arith, ranges.registers.count)) in
    record {
      alive = lives-changed charged (λ x. refl) w.threads t t ∙ (ap has_a0 is ∙ a0_there);
      thread = omega (arith, thread_in, few_threads);
      process = omega (arith, process_in, few_threads, few_processes);
      threads = omega (arith, count, few_threads);
      processes = omega (arith, few_threads, few_processes);
      rounds = law.run.count;
      mask = ap (λ o. has_bit (elim o as (λ _. ℕ) [ None ↦ 0 | Some x ↦ x.mask ]) 9) now
          ∙ ranges.mask.2;
      holdings = here.0;
      live = here.1;
      actions = held.actions.1;
      descriptors = held.descriptors.0;
    }
