-- Who of a queue is found.
use Rattle.std.proofs.Common.{◌≡◌, ◌≢◌, ◌⊎◌, inl, inr, eqb, ℕ, ◌+◌, Bool, true, false, cond, List}
use Rattle.std.proofs.Common.{drop, Some}
use Rattle.std.proofs.Common.{ap, ◌∙◌}
use Rattle.std.specs.Prelude.{◌==◌, find, slice_get}
use Rattle.std.proofs.lemmas.Bool.Decides.{eqb_tells}
use Rattle.dos_world.specs.World.{Sleeper}
use Rattle.debug_answers.proofs.Rows.{drop_at}

-- numbers that differ
pub differs : (a b : ℕ) → a ≢ b → (a == b) ≡ false
differs a b other = by (eqb_tells a b)
  where
    by : ((eqb a b ≡ true) × (a ≡ b)) ⊎ ((eqb a b ≡ false) × (a ≢ b)) → (a == b) ≡ false
    by (inl same) = absurd (other same.1)
    by (inr apart) = apart.0

abbrev pub is_of : ℕ → Sleeper → Bool
is_of t s = s.thread == t

pub found_here : (queue : List Sleeper) (i : ℕ) (x : Sleeper) (t : ℕ)
    → slice_get queue i ≡ Some x → is_of t x ≡ true → find (is_of t) (drop i queue) ≡ Some x
found_here queue i x t is same =
    ap (find (is_of t)) (drop_at queue i x is)
    ∙ ap (λ b. cond b (Some x) (find (is_of t) (drop (i + 1) queue))) same

pub not_here : (queue : List Sleeper) (i : ℕ) (x : Sleeper) (t : ℕ)
    → slice_get queue i ≡ Some x → is_of t x ≡ false
    → find (is_of t) (drop i queue) ≡ find (is_of t) (drop (i + 1) queue)
not_here queue i x t is other =
    ap (find (is_of t)) (drop_at queue i x is)
    ∙ ap (λ b. cond b (Some x) (find (is_of t) (drop (i + 1) queue))) other
