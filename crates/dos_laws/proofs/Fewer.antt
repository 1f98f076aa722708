-- Where one process has less, and no frame is used more, less is had in a lawful world.
use Rattle.std.proofs.Common.{ℕ, ◌≤◌, ◌≡◌, refl, sym, ap, ◌∙◌, cond, length, Option, Some}
use Rattle.std.proofs.Common.{None, arith, eq-eqb}
use Rattle.std.specs.Prelude.{All, IfSome, ◌==◌, slice_index_or, count_by}
use Rattle.std.proofs.lemmas.List.Sums.{get_or-le-sum_by}
use Rattle.dos_world.specs.World.{World, Holdings, Thread, all_holdings, live_process}
use Rattle.dos_world.specs.World.{with_holdings, on_holdings, thread_at}
use Rattle.dos_world.specs.Counts.{uses_of}
use Rattle.dos_world.specs.Lawful.{Lawful, IsThread, AreHoldings, IsAlone}
use Rattle.dos_world.specs.declared.Entry.{Entry}
use Rattle.dos_world.proofs.Numbers.{length-changed}
use Rattle.dos_laws.proofs.Holders.{any_counts, counts_any, sum_changed, all_changed}
use Rattle.dos_laws.proofs.Holders.{live_changed_same, count_changed, parents_changed}
use Rattle.dos_laws.proofs.Holders.{statuses_changed}
use Rattle.dos_laws.proofs.Spaces.{uses_in}
use Rattle.dos_laws.proofs.StandsTidy.{IsLess}

-- where no frame is used more, a private entry that was the only one of its frame is it still
pub alone_fewer : (w v : World) → ((frame : ℕ) → uses_of v frame ≤ uses_of w frame)
    → All (λ x. All (IsAlone w) x.space) (all_holdings v.processes)
    → All (λ x. All (IsAlone v) x.space) (all_holdings v.processes)
alone_fewer w v fewer all k d lt i e less private =
    let x : Holdings = slice_index_or (all_holdings v.processes) k d in
    let entry : ℕ × Entry = slice_index_or x.space i e in
    let was : uses_of w entry.1.frame ≡ 1 = all k d lt i e less private in
    let here : count_by (λ y. y.1.frame == entry.1.frame) x.space ≤ uses_of v entry.1.frame =
    get_or-le-sum_by (λ y. count_by (λ z. z.1.frame == entry.1.frame) y.space)
    (all_holdings v.processes) k d lt in
    let one : cond (entry.1.frame == entry.1.frame) 1 0 ≤ count_by
    (λ y. y.1.frame == entry.1.frame) x.space =
    get_or-le-sum_by (λ y. cond (y.1.frame == entry.1.frame) 1 0) x.space i e less in
    let itself : ◌≡◌ {A = ℕ} (cond (entry.1.frame == entry.1.frame) 1 0) 1 =
    ap (λ b. cond {A = ℕ} b 1 0) (eq-eqb entry.1.frame entry.1.frame refl) in
    omega (arith, was, fewer entry.1.frame, here, one, itself)

module _ (w : World) (p : ℕ) (f : Holdings → Holdings) (was : Holdings)
    (at : live_process w p ≡ Some was) where
  abbrev left : World
  left = with_holdings w p f

  pub less_held : ((frame : ℕ) → uses_in frame (f was).space ≤ uses_in frame was.space)
      → AreHoldings (length w.owners) (f was) → All (IsAlone w) (f was).space → Lawful w
      → IsLess w left
  less_held fewer_in holdings private l = record {
    mapped = λ frame e.
        counts_any (λ x. x.1.frame == frame) (λ x. x.space) (all_holdings w.processes)
        (omega (
          arith,
          fewer frame,
          any_counts (λ (x : ℕ × Entry). x.1.frame == frame) (λ (x : Holdings). x.space)
              (all_holdings left.processes) e,
        ));
    holdings =
        all_changed f (AreHoldings (length w.owners)) (AreHoldings (length w.owners)) (λ x k. k)
        w.processes p was at holdings l.processes.holdings;
    private =
        alone_fewer w left fewer
        (all_changed f (λ x. All (IsAlone w) x.space) (λ x. All (IsAlone w) x.space) (λ x k. k)
        w.processes p was at private l.processes.private);
    populated = λ q lives.
        l.processes.populated q (sym (live_changed_same f w.processes p q) ∙ lives);
    parents = parents_changed f w.processes p l.processes.parents;
    statuses = statuses_changed f w.processes p l.processes.statuses;
    given = (
      omega (arith, l.processes.given.0, length-changed (on_holdings f) w.processes p),
      omega (arith, l.processes.given.1, length-changed (on_holdings f) w.processes p),
    );
    ranges = λ t. ranged (thread_at w t) (l.threads.ranges t);
    asleep = l.threads.asleep;
    sleepers = l.threads.sleepers;
    live = l.limits.threads.0;
    threads = refl;
    processes = omega (arith, count_changed f w.processes p, l.limits.processes);
  }
    where
      fewer : (frame : ℕ) → uses_of left frame ≤ uses_of w frame
      fewer frame =
          omega (
            arith,
            sum_changed f (λ x. uses_in frame x.space) w.processes p was at,
            fewer_in frame,
          )

      ranged : (o : Option Thread) → IfSome o (IsThread w.processes)
          → IfSome o (IsThread left.processes)
      ranged None is = tt
      ranged (Some thread) is = record {
        process = live_changed_same f w.processes p thread.process ∙ is.process;
        registers = is.registers;
        pending = is.pending;
        mask = is.mask;
        saved = is.saved;
      }
