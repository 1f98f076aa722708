-- A text cut at its separators, one part after the other.
use Rattle.std.proofs.Common.{◌≡◌, ◌∙◌, ◌<◌, ℕ, suc, Bool, cond, not, true, false, eqb, List, []}
use Rattle.std.proofs.Common.{◌∷◌, take, drop, length, Option, Some, None, Bor, refl, ap, arith}
use Rattle.std.proofs.Common.{add-one}
use Rattle.std.specs.Prelude.{MatchOption, ◌+◌, is_some}
use Rattle.std.specs.Option.{option_map_or}
use Rattle.std.specs.List.{position_or_len, before_first, after_first}
use Rattle.std.proofs.lemmas.Str.Pattern.{IsSplitOnceResult, split_once_first}
use Rattle.dos_words.specs.Numbers.{Text, parts_by, with_first, post_in}

-- There is always one part.
pub record HasPart (parts : List Text) : Type 0 where
  pub first : Text
  pub others : List Text
  pub are : parts ≡ first ∷ others

pub one_at_least : (c : ℕ) (text : Text) → HasPart (parts_by c text)
one_at_least c [] = record { first = []; others = []; are = refl }
one_at_least c (x ∷ xs) = go (eqb x c) (one_at_least c xs)
  where
    go : (b : Bool) → HasPart (parts_by c xs)
        → HasPart (cond b ([] ∷ parts_by c xs) (with_first x (parts_by c xs)))
    go true h = record { first = []; others = parts_by c xs; are = refl }
    go false h = record { first = x ∷ h.first; others = h.others; are = ap (with_first x) h.are }

-- the parts of what is behind a separator, if there is one
abbrev pub parts_behind : ℕ → Option (Bor Text) → List Text
parts_behind c rest = option_map_or (λ text. parts_by c text.now) rest []

-- Four parts and more are no post.
pub no_post_of_four : (round pid signal : Text) (c : ℕ) (rest : Option (Bor Text))
    → is_some rest ≡ true → post_in (round ∷ pid ∷ signal ∷ parts_behind c rest) ≡ None
no_post_of_four round pid signal c None some = absurd cc
no_post_of_four round pid signal c (Some rest) some =
    ap (λ (parts : List Text). post_in (round ∷ pid ∷ signal ∷ parts))
    (one_at_least c rest.now).are

abbrev is_at : ℕ → ℕ → Bool
is_at c b = eqb b c

-- how many bytes stand before the separator
abbrev before : ℕ → Text → ℕ
before c text = position_or_len (is_at c) text

-- Without a separator it is one part.
no_separator : (c : ℕ) (text : Text) → before c text ≡ length text → parts_by c text ≡ text ∷ []
no_separator c [] e = refl
no_separator c (x ∷ xs) e = go (eqb x c) e (no_separator c xs)
  where
    go : (b : Bool) → cond (not b) (1 + before c xs) 0 ≡ suc (length xs)
        → (before c xs ≡ length xs → parts_by c xs ≡ xs ∷ [])
        → cond b ([] ∷ parts_by c xs) (with_first x (parts_by c xs)) ≡ (x ∷ xs) ∷ []
    go true e h = absurd (omega (arith, e))
    go false e h = ap (with_first x) (h (omega (arith, e)))

-- With one, the first part stands before it.
at_separator : (c : ℕ) (text : Text) → before c text < length text
    → parts_by c text ≡ before_first (is_at c) text ∷ parts_by c (after_first (is_at c) text)
at_separator c [] lt = absurd (omega (arith, lt))
at_separator c (x ∷ xs) lt = go (eqb x c) lt (at_separator c xs)
  where
    go : (b : Bool) → cond (not b) (1 + before c xs) 0 < suc (length xs)
        → (before c xs < length xs
        → parts_by c xs ≡ take (before c xs) xs ∷ parts_by c (drop (before c xs + 1) xs))
        → cond b ([] ∷ parts_by c xs) (with_first x (parts_by c xs))
        ≡ take (cond (not b) (1 + before c xs) 0) (x ∷ xs)
        ∷ parts_by c (drop (cond (not b) (1 + before c xs) 0 + 1) (x ∷ xs))
    go true lt h = refl
    go false lt h = let more : 1 + before c xs ≡ suc (before c xs) = omega arith in
        rw (more, add-one) (ap (with_first x) (rw add-one at h (omega (arith, lt))))

abbrev pub Cut : Type 0
Cut = Option (Bor Text × Bor Text)

-- the parts, by what `split_once` gives
abbrev parts_by_cut : ℕ → Text → Cut → List Text
parts_by_cut c text None = text ∷ []
parts_by_cut c text (Some x) = x.0.now ∷ parts_by c x.1.now

by_cut : (c : ℕ) (text : Text) (r : Cut)
    → MatchOption r (before c text ≡ length text) (λ x. (before c text < length text)
    × (x.0.now ≡ before_first (is_at c) text) × (x.1.now ≡ after_first (is_at c) text))
    → parts_by c text ≡ parts_by_cut c text r
by_cut c text None e = no_separator c text e
by_cut c text (Some x) e = rw (e.1, e.2) (at_separator c text e.0)

pub parts_are : (c : ℕ) (text : Text) (r : Cut) → IsSplitOnceResult c text r → c < 128
    → parts_by c text ≡ parts_by_cut c text r
parts_are c text r is ascii = by_cut c text r (split_once_first c text r is ascii)

pub one_part : (c : ℕ) (text : Text) (r : Cut) → IsSplitOnceResult c text r → c < 128 → r ≡ None
    → parts_by c text ≡ text ∷ []
one_part c text r is ascii e = parts_are c text r is ascii ∙ ap (parts_by_cut c text) e

pub first_of_parts : (c : ℕ) (text : Text) (r : Cut) (part rest : Bor Text)
    → IsSplitOnceResult c text r → c < 128 → r ≡ Some (part, rest)
    → parts_by c text ≡ part.now ∷ parts_by c rest.now
first_of_parts c text r part rest is ascii e =
    parts_are c text r is ascii ∙ ap (parts_by_cut c text) e
