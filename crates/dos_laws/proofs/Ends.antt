-- Threads and lists when a process ends.
use Rattle.std.proofs.Common.{ℕ, zero, suc, ◌+◌, ◌<◌, ◌≤◌, ◌≡◌, ◌≢◌, ◌⊎◌, inl, inr, refl, sym, ap}
use Rattle.std.proofs.Common.{◌∙◌, subst, Bool, true, false, cond, List, [], ◌∷◌, length, map}
use Rattle.std.proofs.Common.{Option, Some, None, arith, eq-eqb}
use Rattle.std.specs.Prelude.{IfSome, IsTrue, is_some, slice_index_or, ◌==◌}
use Rattle.std.proofs.lemmas.Bool.{cases_eq, cases_Bool, false≢true, eqb-true, ne_eqb}
use Rattle.dos_world.specs.Numbered.{map_from, places_from}
use Rattle.dos_world.specs.World.{Thread, belongs_to}
use Rattle.dos_world.specs.Kernel.{unless_of}
pub use Rattle.round_core.proofs.Services.{length-map_from}

-- ---- lists

pub get_or-map_from : {A B : Type 0} (n : ℕ) (f : ℕ → A → B) (xs : List A) (k : ℕ) (d : A) (e : B)
    → k < length xs → slice_index_or (map_from n f xs) k e ≡ f (n + k) (slice_index_or xs k d)
get_or-map_from n f [] k d e lt = absurd (omega arith)
get_or-map_from n f (x ∷ xs) zero d e lt = ap (λ m. f m x) (omega arith)
get_or-map_from n f (x ∷ xs) (suc k) d e lt =
    get_or-map_from (suc n) f xs k d e (omega arith)
    ∙ ap (λ m. f m (slice_index_or xs k d)) (omega arith)

module _ {A : Type 0} (test : A → Bool) (f : A → A) where
  -- the same pass, where the change leaves the test
  pub places_mapped : ((x : A) → test (f x) ≡ test x) → (n : ℕ) (xs : List A)
      → places_from n test (map f xs) ≡ places_from n test xs
  places_mapped same n [] = refl
  places_mapped same n (x ∷ xs) =
      ap
      (λ b. cond b (n ∷ places_from (suc n) test (map f xs)) (places_from (suc n) test (map f xs)))
      (same x)
      ∙ ap (λ rest. cond (test x) (n ∷ rest) rest) (places_mapped same (suc n) xs)

  put_fewer : (b c : Bool) (n : ℕ) (few many : List ℕ) → (b ≡ true → c ≡ true)
      → length few ≤ length many → length (cond b (n ∷ few) few) ≤ length (cond c (n ∷ many) many)
  put_fewer true true n few many h le = omega arith
  put_fewer true false n few many h le = absurd (false≢true (h refl))
  put_fewer false true n few many h le = omega arith
  put_fewer false false n few many h le = le

  -- no more pass, where who passes has passed
  pub places_fewer : ((x : A) → test (f x) ≡ true → test x ≡ true) → (n : ℕ) (xs : List A)
      → length (places_from n test (map f xs)) ≤ length (places_from n test xs)
  places_fewer fewer n [] = omega arith
  places_fewer fewer n (x ∷ xs) =
      put_fewer (test (f x)) (test x) n (places_from (suc n) test (map f xs))
      (places_from (suc n) test xs) (fewer x) (places_fewer fewer (suc n) xs)

-- ---- the threads that are left

module _ (p : ℕ) where
  pub left_is : (o : Option Thread) → IsTrue (is_some (unless_of p o)) → IsTrue (is_some o)
  left_is None h = h
  left_is (Some thread) h = refl

  pub left_belongs : (q : ℕ) → q ≢ p → (o : Option Thread)
      → belongs_to q (unless_of p o) ≡ belongs_to q o
  left_belongs q other None = refl
  left_belongs q other (Some thread) = by_process (cases_Bool (thread.process == p))
    where
      by_process : ((thread.process == p) ≡ true) ⊎ ((thread.process == p) ≡ false)
          → belongs_to q (cond (thread.process == p) None (Some thread)) ≡ (thread.process == q)
      by_process (inl own) =
          let is : thread.process ≡ p = eqb-true thread.process p own in
          let not_q : (thread.process == q) ≡ false =
          ne_eqb thread.process q (λ e. other (sym e ∙ is)) in
          ap (λ b. belongs_to q (cond b None (Some thread))) own ∙ sym not_q
      by_process (inr another) = ap (λ b. belongs_to q (cond b None (Some thread))) another

  -- what holds of each thread holds of each that is left, and it isn't p's
  pub left_each : (P Q : Thread → Type 0)
      → ((thread : Thread) → thread.process ≢ p → P thread → Q thread) → (o : Option Thread)
      → IfSome o P → IfSome (unless_of p o) Q
  left_each P Q f None h = tt
  left_each P Q f (Some thread) h = by_process (cases_eq thread.process p)
    where
      by_process : (thread.process ≡ p) ⊎ (thread.process ≡ p → ⊥)
          → IfSome (cond (thread.process == p) None (Some thread)) Q
      by_process (inl own) =
          subst (λ b. IfSome (cond b None (Some thread)) Q) (sym (eq-eqb thread.process p own)) tt
      by_process (inr another) =
          subst (λ b. IfSome (cond b None (Some thread)) Q) (sym (ne_eqb thread.process p another))
          (f thread another h)

-- ---- the world
