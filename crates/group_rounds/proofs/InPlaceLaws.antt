-- One starter more that has run in place.
use Rattle.std.proofs.Common.{ℕ, zero, suc, ◌+◌, ◌<◌, ◌≡◌, ◌≢◌, ◌⊎◌, inl, inr, refl, sym, ap, ap₂}
use Rattle.std.proofs.Common.{◌∙◌, subst, List, [], ◌∷◌, length, drop, get_or, Option, Some, None}
use Rattle.std.proofs.Common.{option_map, arith}
use Rattle.std.specs.Prelude.{IsSome, slice_get, sum_by}
use Rattle.std.proofs.lemmas.List.Sums.{sum_by-cons}
use Rattle.dos_world.specs.World.{Thread, thread_at}
use Rattle.flat_machine.specs.Alone.{alone}
use Rattle.flat_machine.specs.Laws.{without_progress}
use Rattle.flat_machine.specs.Round.{all_alone}
use Rattle.round_core.proofs.Bringing.{all_alone-differ}
use Rattle.kernel_calls.specs.StateWorld.{sent, world_of}
use Rattle.kernel_calls.specs.declared.state.State.{State}
use Rattle.group_rounds.specs.Parts.{budget_in}
use Rattle.group_rounds.specs.Phases.{AreLive}
use Rattle.group_rounds.proofs.PhaseLaws.{drop_at}

-- ---- sums of what changes in one place

-- what is the same at each of them
sum-same : (f g : ℕ → ℕ) (xs : List ℕ) → ((i x : ℕ) → slice_get xs i ≡ Some x → f x ≡ g x)
    → sum_by f xs ≡ sum_by g xs
sum-same f g [] same = refl
sum-same f g (x ∷ xs) same =
    sum_by-cons f x xs
    ∙ ap₂ (λ a b. a + b) (same 0 x refl) (sum-same f g xs (λ i y at. same (suc i) y at))
    ∙ sym (sum_by-cons g x xs)

-- what is less by n at one of them
pub sum-less : (f g : ℕ → ℕ) (t n : ℕ) → f t ≡ n + g t → ((x : ℕ) → x ≢ t → f x ≡ g x)
    → (xs : List ℕ) (i : ℕ) → slice_get xs i ≡ Some t
    → ((i j x : ℕ) → slice_get xs i ≡ Some x → slice_get xs j ≡ Some x → i ≡ j)
    → sum_by f xs ≡ n + sum_by g xs
sum-less f g t n less same [] i at apart = cc
sum-less f g t n less same (x ∷ xs) zero at apart =
    let here : x ≡ t = cc in
    let head : f x ≡ n + g x = ap f here ∙ less ∙ ap (λ y. n + g y) (sym here) in
    let rest : sum_by f xs ≡ sum_by g xs = sum-same f g xs (λ j y there. same y (λ e.
    let twice : suc j ≡ 0 = apart (suc j) 0 t (there ∙ ap Some e) (ap Some here) in
    grind (arith, twice))) in
    let left = sum_by-cons f x xs in
    let right = sum_by-cons g x xs in
    omega (arith, head, rest, left, right)
sum-less f g t n less same (x ∷ xs) (suc i) at apart =
    let head : f x ≡ g x = same x (λ e.
    let twice : suc i ≡ 0 = apart (suc i) 0 t at (ap Some e) in grind (arith, twice)) in
    let rest : sum_by f xs ≡ n + sum_by g xs = sum-less f g t n less same xs i at (λ j k y a b.
    let next : suc j ≡ suc k = apart (suc j) (suc k) y a b in omega (arith, next)) in
    let left = sum_by-cons f x xs in
    let right = sum_by-cons g x xs in
    omega (arith, head, rest, left, right)

-- ---- one part

same-some : (o p : Option Thread) → option_map without_progress o ≡ option_map without_progress p
    → IsSome p
    → IsSome o
same-some None None e h = h
same-some None (Some thread) e h = cc
same-some (Some thread) p e h = refl

module _ (s s' : State) (t : ℕ)
    (runs : (q : ℕ) (o e : List ℕ)
    → alone (sent o e (world_of q s)) t ≡ sent o e (world_of q s')) where
  pub alone_next : (xs : List ℕ) (i : ℕ) → i < length xs → t ≡ get_or xs i 0 → (q : ℕ)
      (o e : List ℕ)
      → all_alone (sent o e (world_of q s)) (drop i xs)
      ≡ all_alone (sent o e (world_of q s')) (drop (i + 1) xs)
  alone_next xs i lt is q o e =
      ap (all_alone (sent o e (world_of q s))) (drop_at xs i lt)
      ∙ ap (λ t. all_alone (sent o e (world_of q s)) (t ∷ drop (i + 1) xs)) (sym is)
      ∙ ap (λ w. all_alone w (drop (i + 1) xs)) (runs q o e)

  -- who lived lives
  pub alone_live : (xs : List ℕ) → AreLive s.table.threads xs → AreLive s'.table.threads xs
  alone_live xs live k d lt =
      let x = get_or xs k d in
      subst (λ w. IsSome (thread_at w x)) (runs 0 [] [])
      (same-some (thread_at (alone (world_of 0 s) t) x) (thread_at (world_of 0 s) x)
      ((all_alone-differ (t ∷ []) (world_of 0 s)).threads x) (live k d lt))

  -- nobody else's budget changes
  others : (x : ℕ) → x ≢ t → budget_in s x ≡ budget_in s' x
  others x other =
      ap (λ o. elim o as (λ _. ℕ) [ None ↦ 0 | Some thread ↦ thread.budget ])
      (sym ((all_alone-differ (t ∷ []) (world_of 0 s)).others x out)
      ∙ ap (λ w. thread_at w x) (runs 0 [] []))
    where
      out : (t ≡ x) ⊎ ⊥ → ⊥
      out (inl e) = other (sym e)
      out (inr h) = h

  pub alone_paid : (n : ℕ) (xs : List ℕ) (i : ℕ) → budget_in s t ≡ n + budget_in s' t
      → slice_get xs i ≡ Some t
      → ((i j x : ℕ) → slice_get xs i ≡ Some x → slice_get xs j ≡ Some x → i ≡ j)
      → sum_by (budget_in s) xs ≡ n + sum_by (budget_in s') xs
  alone_paid n xs i paid at apart =
      sum-less (budget_in s) (budget_in s') t n paid others xs i at apart
