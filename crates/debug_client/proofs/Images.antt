-- The images of processes, by those of their parents.
use Rattle.std.proofs.Common.{◌≡◌, ℕ, zero, suc, ◌+◌, ◌-◌, ◌<◌, ◌≤◌, List}
use Rattle.std.proofs.Common.{Bool, true, false, cond, Option, Some, None, refl, sym, ap, ◌∙◌}
use Rattle.std.proofs.Common.{arith}
use Rattle.std.specs.Prelude.{option_and_then, unwrap_or, nat_le, IfSome}
use Rattle.dos_world.specs.Numbered.{numbered}
use Rattle.dos_world.specs.World.{parent_of}
use Rattle.group_moves.specs.Moments.{Moment}
use Rattle.debug_session.specs.Homes.{birth_of, image_of_process}
use Rattle.debug_client.specs.Births.{image_behind, image_by}

module _ (images : ℕ) where
  -- a process that isn't one of the images, by its parent's
  abbrev by_parent : ℕ → List Moment → ℕ → Option Moment → Option ℕ
  by_parent most moments p birth =
      option_and_then (λ m. image_of_process most images moments (parent_of m.world p)) birth

  abbrev image_or : ℕ → List Moment → ℕ → Bool → Option ℕ
  image_or most moments p is_first =
      cond is_first (Some p) (by_parent most moments p (birth_of moments p))

  -- ---- a front of the moments

  -- where these numbers were first there at the same moments
  pub image_stays : (all front : List Moment) (most : ℕ)
      → ((p : ℕ) → p ≤ most → birth_of all p ≡ birth_of front p)
      → ((p : ℕ) → IfSome (birth_of front p) (λ m. parent_of m.world p < p))
      → (k p : ℕ) → p ≤ most
      → image_of_process k images all p ≡ image_of_process k images front p
  image_stays all front most same parents zero p within = refl
  image_stays all front most same parents (suc k) p within =
      ap (λ o. cond (nat_le p images) (Some p) o)
      (ap (by_parent k all p) (same p within)
      ∙ by (image_stays all front most same parents k) (birth_of front p) (parents p))
    where
      by : ((q : ℕ) → q ≤ most
          → image_of_process k images all q ≡ image_of_process k images front q)
          → (o : Option Moment) → IfSome o (λ m. parent_of m.world p < p)
          → by_parent k all p o ≡ by_parent k front p o
      by rest None lower = refl
      by rest (Some m) lower = rest (parent_of m.world p) (omega (arith, lower, within))

  -- ---- no more steps than a number are needed

  abbrev number_of : ℕ → List Moment → ℕ → ℕ
  number_of k moments p = unwrap_or (image_of_process k images moments p) 0

  module _ (moments : List Moment)
      (parents : (p : ℕ) → IfSome (birth_of moments p) (λ m. parent_of m.world p < p)) where
    one_less : (k p : ℕ) → p ≤ k → number_of (suc k) moments p ≡ number_of k moments p
    one_less zero p within = by_number p within
      where
        no_parent : (p : ℕ) (o : Option Moment) → unwrap_or (by_parent zero moments p o) 0 ≡ 0
        no_parent p None = refl
        no_parent p (Some m) = refl

        by : (b : Bool) → unwrap_or (image_or zero moments 0 b) 0 ≡ 0
        by true = refl
        by false = no_parent 0 (birth_of moments 0)

        by_number : (p : ℕ) → p ≤ 0 → number_of 1 moments p ≡ 0
        by_number zero within = by (nat_le 0 images)
        by_number (suc p) within = absurd (omega (arith, within))
    one_less (suc k) p within =
        by (one_less k) (nat_le p images) (birth_of moments p) (parents p)
      where
        by : ((q : ℕ) → q ≤ k → number_of (suc k) moments q ≡ number_of k moments q) → (b : Bool)
            → (o : Option Moment) → IfSome o (λ m. parent_of m.world p < p)
            → unwrap_or (cond b (Some p) (by_parent (suc k) moments p o)) 0
            ≡ unwrap_or (cond b (Some p) (by_parent k moments p o)) 0
        by rest true o lower = refl
        by rest false None lower = refl
        by rest false (Some m) lower = rest (parent_of m.world p) (omega (arith, lower, within))

    enough : (d p : ℕ) → number_of (p + d) moments p ≡ number_of p moments p
    enough zero p = let same : p + 0 ≡ p = omega arith in ap (λ k. number_of k moments p) same
    enough (suc d) p =
        let same : p + suc d ≡ suc (p + d) = omega arith in
        ap (λ k. number_of k moments p) same ∙ one_less (p + d) p (omega arith) ∙ enough d p

    pub by_its_parent : (k p : ℕ) → p ≤ k
        → number_of k moments p ≡ image_behind images moments p
    by_its_parent k p within =
        let same : k ≡ p + (k - p) = omega (arith, within) in
        ap (λ n. number_of n moments p) same ∙ enough (k - p) p

    -- ---- one process more

    pub image_is : (kept : List ℕ) (p parent : ℕ) (m : Moment) → 0 < p
        → birth_of moments p ≡ Some m → parent ≡ parent_of m.world p → parent < p
        → unwrap_or (numbered kept parent) 0 ≡ image_behind images moments parent
        → image_by images kept p parent ≡ image_behind images moments p
    image_is kept zero parent m some birth is lower known = absurd (omega (arith, some))
    image_is kept (suc k) parent m some birth is lower known = by (nat_le (suc k) images)
      where
        by : (b : Bool)
            → (elim b [ true ↦ suc k | false ↦ unwrap_or (numbered kept parent) 0 ])
            ≡ unwrap_or (image_or k moments (suc k) b) 0
        by true = refl
        by false =
            known
            ∙ sym (by_its_parent k parent (omega (arith, lower)))
            ∙ ap (number_of k moments) is
            ∙ sym (ap (λ o. unwrap_or (by_parent k moments (suc k) o) 0) birth)

  -- a process that isn't there
  pub image_unborn : (moments : List Moment) (p : ℕ) → nat_le p images ≡ false
      → birth_of moments p ≡ None → image_behind images moments p ≡ 0
  image_unborn moments zero later none = refl
  image_unborn moments (suc k) later none =
      ap (λ b. unwrap_or (image_or k moments (suc k) b) 0) later
      ∙ ap (λ o. unwrap_or (by_parent k moments (suc k) o) 0) none
