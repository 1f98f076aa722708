-- The budgets of the packs that go out and come back are those of their threads.
use Rattle.std.proofs.Common.{ℕ, ◌+◌, ◌-◌, ◌≡◌, refl, sym, ap, ap₂, ◌∙◌, subst, List, [], ◌∷◌}
use Rattle.std.proofs.Common.{length, Option, Some, None, option_map, suc, arith}
use Rattle.std.specs.Prelude.{map, slice_get, sum_by}
use Rattle.std.proofs.lemmas.List.Sums.{sum_by-cons}
use Rattle.dos_world.specs.World.{World, Registers, Thread, thread_at}
use Rattle.flat_machine.specs.Laws.{kept}
use Rattle.page_store.specs.Store.{Store}
use Rattle.flat_machine.specs.Alone.{budget_of}
use Rattle.quantum_run.specs.Packs.{empty_pack}
use Rattle.quantum_run.specs.Shows.{Pack}
use Rattle.worker_pool.specs.Ran.{AllRan, budgets_left}
use Rattle.kernel_calls.specs.StateWorld.{IsSound, world_of}
use Rattle.kernel_calls.specs.declared.state.State.{State}
use Rattle.group_rounds.specs.Handing.{AreOnce, AreSet, Handing, pack_of, view_of}
use Rattle.group_rounds.specs.Parts.{budget_in, work_between}
use Rattle.group_rounds.specs.Phases.{AreLive}
use Rattle.group_rounds.proofs.PacksShow.{opened-is, shows-it}
use Rattle.group_rounds.proofs.PacksBack.{known, in-of}

-- a world's thread with these registers and this budget has this budget
budget-is : (w : World) (t b : ℕ) (r : Registers)
    → option_map kept (thread_at w t) ≡ Some (r, b) → b ≡ budget_of w t
budget-is w t b r h = by (thread_at w t) h
  where
    inner : {a c : Registers × ℕ} → ◌≡◌ {A = Option (Registers × ℕ)} (Some a) (Some c) → a ≡ c
    inner q = cc

    by : (o : Option Thread) → option_map kept o ≡ Some (r, b)
        → b ≡ elim o as (λ _. ℕ) [ None ↦ 0 | Some thread ↦ thread.budget ]
    by None q = cc
    by (Some x) q = sym (ap (λ (run : Registers × ℕ). run.1) (inner q))

-- packs of these threads have their budgets in all
pub budgets-are : (s : State) (ts : List ℕ) (ps : List Pack) → length ps ≡ length ts
    → ((i t : ℕ) (p : Pack) → slice_get ts i ≡ Some t → slice_get ps i ≡ Some p
    → p.budget ≡ budget_in s t)
    → budgets_left ps ≡ sum_by (budget_in s) ts
budgets-are s [] [] level each = refl
budgets-are s [] (p ∷ ps) level each = absurd (grind arith)
budgets-are s (t ∷ ts) [] level each = absurd (grind arith)
budgets-are s (t ∷ ts) (p ∷ ps) level each =
    ap₂ (λ a b. a + b) (each 0 t p refl refl)
    (budgets-are s ts ps (omega arith) (λ i u q at here. each (suc i) u q at here))
    ∙ sym (sum_by-cons (budget_in s) t ts)

module _ (s : State) (sound : IsSound s) (ts : List ℕ) (live : AreLive s.table.threads ts)
    (apart : AreOnce ts)
    (new : Store) (ps qs : List Pack)
    (h : Handing ts (map (pack_of s.table (empty_pack (length s.frames.pages))) ts) s.frames new ps
    (length s.frames.pages)) (ran : AllRan (view_of new s.table) ps qs) where
  -- as they go out
  out : budgets_left ps ≡ sum_by (budget_in s) ts
  out = budgets-are s ts ps h.level (λ i t p at here.
      let begun = opened-is s sound ts live new ps h i t p at here in
      let sh = shows-it s sound ts live new ps h i t p at here 0 [] [] in
      subst (λ (n : ℕ). p.budget ≡ budget_in s n) (ap (λ (x : Pack). x.thread) begun)
      (budget-is (world_of 0 s) p.thread p.budget p.registers sh.thread))

  -- as they come back
  back : (s2 : State) → AreSet qs s.table s2.table → budgets_left qs ≡ sum_by (budget_in s2) ts
  back s2 set = budgets-are s2 ts qs (ran.level ∙ h.level) (λ i t q at here.
      let n = known s sound ts live apart new ps qs h ran i q here in
      let thread : q.thread ≡ t = n.is ∙ number-is (sym n.starter ∙ at) in
      subst (λ (k : ℕ). q.budget ≡ budget_in s2 k) thread
      (budget-is (world_of 0 s2) q.thread q.budget q.registers (set.set q (in-of qs i q here))))
    where
      number-is : {a b : ℕ} → ◌≡◌ {A = Option ℕ} (Some a) (Some b) → a ≡ b
      number-is q = cc

  -- what they have run is what their threads have
  pub work-is : (s2 : State) → AreSet qs s.table s2.table
      → budgets_left ps - budgets_left qs ≡ work_between s s2 ts
  work-is s2 set = ap₂ (λ a b. a - b) out (back s2 set)
