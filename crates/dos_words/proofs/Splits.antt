-- Canonical words are their pairs' words, and then the names.
use Rattle.std.proofs.Common.{◌≡◌, ◌≤◌, Bool, cond, true, false, not, refl, ap, subst, arith, List}
use Rattle.std.proofs.Common.{[], ◌∷◌, length, Option, Some, None, eqb}
use Rattle.std.specs.Prelude.{option_and_then}
use Rattle.std.specs.List.{list_all}
use Rattle.std.proofs.lemmas.Bool.{and_parts}
use Rattle.dos_words.specs.Numbers.{Text}
use Rattle.dos_words.specs.Canonical.{Pairs, is_plain, pairs_and_names, with_pair}
use Rattle.dos_words.proofs.Walks.{IsPlain, words_of}
use Rattle.dos_words.proofs.Levels.{ArePlain}

word_is_plain : (word : Text) → is_plain word ≡ true → IsPlain word
word_is_plain [] e = absurd cc
word_is_plain (x ∷ xs) e = go (eqb x 45) e
  where
    go : (b : Bool) → not b ≡ true → b ≡ false
    go true e = absurd cc
    go false e = refl

names_are_plain : (words : List Text) → list_all is_plain words ≡ true → ArePlain words
names_are_plain [] e = tt
names_are_plain (word ∷ words) e = let b = and_parts (is_plain word) (list_all is_plain words) e in
    (word_is_plain word b.0, names_are_plain words b.1)

abbrev pub HavePlain : Pairs → Type 0
HavePlain [] = Unit {0}
HavePlain (pair ∷ pairs) = IsPlain pair.1 × HavePlain pairs

abbrev pub Parts : Type 0
Parts = Pairs × List Text

pub record Splits (words : List Text) (parts : Parts) : Type 0 where
  pub words_are : words ≡ words_of parts.0 parts.1
  pub values : HavePlain parts.0
  pub names : ArePlain parts.1

abbrev some : Parts → Option Parts
some parts = Some parts

split_by : (words : List Text) (x y : Parts) → Splits words x → some x ≡ some y → Splits words y
split_by words x y s e = let same : x ≡ y = cc in subst (Splits words) same s

one_name : (b : Bool) (word : Text) (y : Parts) → is_plain word ≡ b
    → cond b (some ([], word ∷ [])) None ≡ Some y → Splits (word ∷ []) y
one_name true word y is e = split_by (word ∷ []) ([], word ∷ []) y
    (record { words_are = refl; values = tt; names = (word_is_plain word is, tt) }) e
one_name false word y is e = absurd cc

more_words : (b c d : Bool) (word value : Text) (words : List Text) (rest : Option Parts)
    (y : Parts) → list_all is_plain (word ∷ value ∷ words) ≡ c → is_plain value ≡ d
    → ((r : Parts) → rest ≡ Some r → Splits words r)
    → cond b (cond c (some ([], word ∷ value ∷ words)) None)
    (cond d (option_and_then (with_pair word value) rest) None) ≡ Some y
    → Splits (word ∷ value ∷ words) y
more_words true true d word value words rest y all plain later e =
    split_by (word ∷ value ∷ words) ([], word ∷ value ∷ words) y (record {
      words_are = refl;
      values = tt;
      names = names_are_plain (word ∷ value ∷ words) all;
    }) e
more_words true false d word value words rest y all plain later e = absurd cc
more_words false c true word value words (Some r) y all plain later e = let s = later r refl in
    split_by (word ∷ value ∷ words) ((word, value) ∷ r.0, r.1) y (record {
      words_are = ap (λ (ws : List Text). word ∷ value ∷ ws) s.words_are;
      values = (word_is_plain value plain, s.values);
      names = s.names;
    }) e
more_words false c true word value words None y all plain later e = absurd cc
more_words false c false word value words rest y all plain later e = absurd cc

pub splits : (words : List Text) (parts : Parts) → pairs_and_names words ≡ Some parts
    → Splits words parts
splits [] y e = split_by [] ([], []) y (record { words_are = refl; values = tt; names = tt }) e
splits (word ∷ []) y e = one_name (is_plain word) word y refl e
splits (word ∷ value ∷ words) y e = more_words (is_plain word)
    (list_all is_plain (word ∷ value ∷ words)) (is_plain value) word value words
    (pairs_and_names words) y refl refl (λ r h. splits words r h) e

pub few_names : (pairs : Pairs) (names : List Text) → length names ≤ length (words_of pairs names)
few_names [] names = omega arith
few_names (pair ∷ pairs) names = omega (arith, few_names pairs names)
