-- The lowest signal that comes.
use Rattle.std.proofs.Common.{◌≡◌, ℕ, zero, suc, ◌+◌, ◌<◌, ◌≤◌, Bool, true, false, cond, Some, None}
use Rattle.std.proofs.Common.{inl, inr, refl, sym, ap, ◌∙◌, arith}
use Rattle.std.specs.Prelude.{find, not, ◌&&◌}
use Rattle.std.proofs.lemmas.Bool.{cases_eq}
use Rattle.dos_world.specs.Numbered.{run_of}
use Rattle.dos_world.specs.World.{has_bit}
use Rattle.proc_table.specs.Saved.{is_deliverable, lowest_open}

first_in : (test : ℕ → Bool) (n count p : ℕ) → n ≤ p → p < n + count
    → ((k : ℕ) → n ≤ k → k < p → test k ≡ false) → test p ≡ true
    → find test (run_of n count) ≡ Some p
first_in test n zero p low high below here = absurd (omega arith)
first_in test n (suc count) p low high below here = elim (cases_eq n p) [
  | inl same ↦ ap (λ k. cond (test k) (Some k) (find test (run_of (suc n) count))) same
      ∙ ap (λ b. cond b (Some p) (find test (run_of (suc n) count))) here
  | inr other ↦ ap (λ b. cond b (Some n) (find test (run_of (suc n) count)))
      (below n (omega arith) (omega arith))
      ∙ first_in test (suc n) count p (omega arith) (omega arith)
      (λ k l h. below k (omega arith) h) here
]

none_in : (test : ℕ → Bool) (n count : ℕ) → ((k : ℕ) → n ≤ k → k < n + count → test k ≡ false)
    → find test (run_of n count) ≡ None
none_in test n zero below = refl
none_in test n (suc count) below =
    ap (λ b. cond b (Some n) (find test (run_of (suc n) count)))
    (below n (omega arith) (omega arith))
    ∙ none_in test (suc n) count (λ k l h. below k (omega arith) (omega arith))

-- a signal that is pending and not masked
pub opens : (pending mask signal : ℕ) → has_bit pending signal ≡ true → has_bit mask signal ≡ false
    → is_deliverable pending mask signal ≡ true
opens pending mask signal set free = ap (λ b. b && not (has_bit mask signal)) set ∙ ap not free

-- the first that passes is the lowest signal that comes
pub lowest_is : (pending mask p : ℕ) → 1 ≤ p → p < 32
    → ((k : ℕ) → 1 ≤ k → k < p → is_deliverable pending mask k ≡ false)
    → is_deliverable pending mask p ≡ true
    → Some p ≡ lowest_open pending mask
lowest_is pending mask p low high below here =
    sym (first_in (is_deliverable pending mask) 1 31 p low (omega arith) below here)

-- where none passes, none comes
pub lowest_none : (pending mask : ℕ)
    → ((k : ℕ) → 1 ≤ k → k < 32 → is_deliverable pending mask k ≡ false)
    → None ≡ lowest_open pending mask
lowest_none pending mask below =
    sym (none_in (is_deliverable pending mask) 1 31 (λ k l h. below k l (omega arith)))
