-- Each move of a deque keeps every number below the bound.
use Rattle.std.proofs.Common.{ℕ, zero, suc, ◌<◌, All, List, [], ◌∷◌, ◌++◌, length, subst, arith}
use lib.Seq.{take-append_seam, drop-append_seam}
use Rattle.std.proofs.lemmas.List.Elements.{All-append, All-take, All-drop}
use Rattle.crossbeam_deque.specs.Tasks.{Pushes, Takes}

module _ (bound : ℕ) where
  abbrev pub Holds : List ℕ → List (Unit {0}) → Type 0
  Holds items _ = All (λ x. x < bound) items

  left : (xs ys : List ℕ) → All (λ x. x < bound) (xs ++ ys) → All (λ x. x < bound) xs
  left xs ys h = subst (All (λ x. x < bound)) (take-append_seam xs ys)
      (All-take (λ x. x < bound) (length xs) (xs ++ ys) h)

  right : (xs ys : List ℕ) → All (λ x. x < bound) (xs ++ ys) → All (λ x. x < bound) ys
  right xs ys h = subst (All (λ x. x < bound)) (drop-append_seam xs ys)
      (All-drop (λ x. x < bound) (length xs) (xs ++ ys) h)

  pub pushes : (port : ℕ) (v : Unit {0}) (xs : List ℕ) → All (λ x. x < bound) xs
      → Pushes Holds port v xs (λ _. All (λ x. x < bound) xs)
  pushes port v xs new items views h _ = (tt, All-append (λ x. x < bound) items xs h new, new)

  alone : (n : ℕ) → n < bound → All (λ x. x < bound) (n ∷ [])
  alone n low zero d first = low
  alone n low (suc i) d past = absurd (omega (arith, past))

  pub pushes-one : (port : ℕ) (v : Unit {0}) (n : ℕ) → n < bound
      → Pushes Holds port v (n ∷ []) (λ _. All (λ x. x < bound) (n ∷ []))
  pushes-one port v n low = pushes port v (n ∷ []) (alone n low)

  pub takes : (port : ℕ) (v : Unit {0}) (most : ℕ)
      → Takes Holds port v most (λ xs _. All (λ x. x < bound) xs)
  takes port v most xs items views _ _ h _ = (tt, right xs items h, left xs items h)
