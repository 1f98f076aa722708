-- The first of those who come one before another.
use Rattle.std.proofs.Common.{◌≡◌, ℕ, List, [], ◌∷◌, ◌++◌, Bool, true, false, cond, Some}
use Rattle.std.proofs.Common.{None, refl, sym, ap, ◌∙◌, filter}
use Rattle.std.specs.Prelude.{find, ◌&&◌}
use Rattle.std.specs.List.{list_all}
use Rattle.std.specs.Option.{option_or}
use Rattle.std.proofs.lemmas.List.Folds.{list_all-append}
use Rattle.dos_world.specs.World.{first_of}
use Rattle.debug_session.specs.Sessions.{is_among}
use Rattle.debug_client.proofs.Tests.{and_both}
use Rattle.debug_client.proofs.Listed.{filter_all, all_among}

pub first_kept : (f : ℕ → Bool) (xs : List ℕ) → first_of (filter f xs) ≡ find f xs
first_kept f [] = refl
first_kept f (x ∷ xs) = by (first_kept f xs) (f x)
  where
    by : first_of (filter f xs) ≡ find f xs → (b : Bool)
        → first_of (cond b (x ∷ filter f xs) (filter f xs)) ≡ cond b (Some x) (find f xs)
    by rest true = refl
    by rest false = rest

pub first_append : (xs ys : List ℕ) → first_of (xs ++ ys) ≡ option_or (first_of xs) (first_of ys)
first_append [] ys = refl
first_append (x ∷ xs) ys = refl

pub first_all : (f : ℕ → Bool) (xs : List ℕ) (x : ℕ) → list_all f xs ≡ true
    → first_of xs ≡ Some x → f x ≡ true
first_all f [] x all is = cc
first_all f (y ∷ ys) x all is =
    let same : y ≡ x = cc in
    ap f (sym same) ∙ (and_both (f y) (list_all f ys) all).0

found_holds : (f : ℕ → Bool) (xs : List ℕ) (x : ℕ) → find f xs ≡ Some x → f x ≡ true
found_holds f [] x is = cc
found_holds f (y ∷ ys) x is = by (found_holds f ys x) (f y) refl is
  where
    by : (find f ys ≡ Some x → f x ≡ true) → (b : Bool) → f y ≡ b
        → cond b (Some y) (find f ys) ≡ Some x → f x ≡ true
    by rest true holds is = let same : y ≡ x = cc in ap f (sym same) ∙ holds
    by rest false fails is = rest is

pub kept_holds : (f : ℕ → Bool) (xs : List ℕ) (x : ℕ) → first_of (filter f xs) ≡ Some x
    → f x ≡ true
kept_holds f xs x is = found_holds f xs x (sym (first_kept f xs) ∙ is)

-- ---- four lists

module _ (a b c d : List ℕ) where
  pub of_first : (t : ℕ) → first_of a ≡ Some t → first_of (((a ++ b) ++ c) ++ d) ≡ Some t
  of_first t is =
      first_append ((a ++ b) ++ c) d
      ∙ ap (λ o. option_or o (first_of d)) (first_append (a ++ b) c)
      ∙ ap (λ o. option_or (option_or o (first_of c)) (first_of d)) (first_append a b)
      ∙ ap (λ o. option_or (option_or (option_or o (first_of b)) (first_of c)) (first_of d)) is

  pub of_others : first_of a ≡ None
      → first_of (((a ++ b) ++ c) ++ d) ≡ first_of ((b ++ c) ++ d)
  of_others none =
      first_append ((a ++ b) ++ c) d
      ∙ ap (λ o. option_or o (first_of d)) (first_append (a ++ b) c)
      ∙ ap (λ o. option_or (option_or o (first_of c)) (first_of d)) (first_append a b)
      ∙ ap (λ o. option_or (option_or (option_or o (first_of b)) (first_of c)) (first_of d)) none
      ∙ sym (ap (λ o. option_or o (first_of d)) (first_append b c))
      ∙ sym (first_append (b ++ c) d)

-- ---- of those that are listed

module _ (test : ℕ → Bool) (listed : List ℕ) (t : ℕ) where
  -- the current thread, those that pass the test, and all
  abbrev pub listed_first : Bool → List ℕ
  listed_first among = (cond among (t ∷ []) [] ++ filter test listed) ++ listed

  pub of_process : (among : Bool) (x : ℕ) → among ≡ false → find test listed ≡ Some x
      → first_of (listed_first among) ≡ Some x
  of_process among x other is =
      ap (λ b. first_of (listed_first b)) other
      ∙ first_append (filter test listed) listed
      ∙ ap (λ o. option_or o (first_of listed)) (first_kept test listed ∙ is)

  pub of_all : (among : Bool) → among ≡ false → find test listed ≡ None
      → first_of (listed_first among) ≡ first_of listed
  of_all among other none =
      ap (λ b. first_of (listed_first b)) other
      ∙ first_append (filter test listed) listed
      ∙ ap (λ o. option_or o (first_of listed)) (first_kept test listed ∙ none)

  pub listed_holds : (f : ℕ → Bool) (x : ℕ) → list_all f listed ≡ true
      → first_of (listed_first (is_among t listed)) ≡ Some x → f x ≡ true
  listed_holds f x all is =
      first_all f (listed_first (is_among t listed)) x
      (list_all-append f (cond (is_among t listed) (t ∷ []) [] ++ filter test listed) listed
      ∙ ap (λ b. b && list_all f listed)
      (list_all-append f (cond (is_among t listed) (t ∷ []) []) (filter test listed)
      ∙ ap (λ b. b && list_all f (filter test listed)) (current (is_among t listed) refl)
      ∙ filter_all f test listed all)
      ∙ all)
      is
    where
      current : (among : Bool) → is_among t listed ≡ among
          → list_all f (cond among (t ∷ []) []) ≡ true
      current true is = ap (λ b. b && true) (all_among f listed t is all)
      current false is = refl
