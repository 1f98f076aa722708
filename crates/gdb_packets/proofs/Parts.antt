-- A text cut at its marks, one part after the other.
use Rattle.std.proofs.Common.{◌≡◌, ◌+◌, ◌<◌, ◌≤◌, ℕ, zero, suc, List, [], ◌∷◌, ◌++◌, Option, Some}
use Rattle.std.proofs.Common.{None, Bor}
use Rattle.std.proofs.Common.{length, take, drop, arith, refl, sym, ap, ◌∙◌, Bool, true, false}
use Rattle.std.proofs.Common.{cond, ltb, filter}
use Rattle.std.proofs.Common.{eqb, not, length-drop}
use Rattle.std.proofs.lemmas.Bool.{ltb-true, ltb-false}
use Rattle.std.specs.Prelude.{option_map}
use Rattle.std.specs.Option.{option_map_or}
use Rattle.std.specs.List.{position_or_len, onto_first}
use Rattle.std.proofs.lemmas.List.Splits.{slice_split_first}
use Rattle.gdb_packets.specs.Around.{between_marks, around, is_mark, sides}
use Rattle.gdb_packets.specs.Commands.{words_between, is_some_text}
use Rattle.gdb_packets.specs.Resumptions.{resumptions_in}
use Rattle.gdb_packets.specs.declared.resumptions.Resumption.{Resumption}

-- ---- one cut

-- how many bytes stand before the mark
abbrev before : ℕ → List ℕ → ℕ
before mark text = position_or_len (is_mark mark) text

-- Without a mark it is one part.
no_mark : (mark : ℕ) (text : List ℕ) → length text ≤ before mark text
    → between_marks mark text ≡ text ∷ []
no_mark mark [] e = refl
no_mark mark (x ∷ xs) e = go (eqb x mark) e (no_mark mark xs)
  where
    go : (b : Bool) → suc (length xs) ≤ cond (not b) (1 + before mark xs) 0
        → (length xs ≤ before mark xs → between_marks mark xs ≡ xs ∷ [])
        → cond b ([] ∷ between_marks mark xs) (onto_first x (between_marks mark xs))
        ≡ (x ∷ xs) ∷ []
    go true e h = absurd (omega (arith, e))
    go false e h = ap (onto_first x) (h (omega (arith, e)))

pub one_part : (mark : ℕ) (text : List ℕ) → around mark text ≡ None
    → between_marks mark text ≡ text ∷ []
one_part mark text e = go (ltb (before mark text) (length text)) refl e
  where
    go : (b : Bool) → ltb (before mark text) (length text) ≡ b
        → option_map (sides text) (cond b (Some (before mark text)) None) ≡ None
        → between_marks mark text ≡ text ∷ []
    go true t e = absurd cc
    go false t e = no_mark mark text (ltb-false _ _ t)

-- the parts, one by one
pub record CutsAt (mark : ℕ) (text part rest : List ℕ) : Type 0 where
  pub parts : between_marks mark text ≡ part ∷ between_marks mark rest
  pub shorter : length rest < length text

cut_by : (mark : ℕ) (text part rest : List ℕ) → before mark text < length text
    → take (before mark text) text ≡ part → drop (before mark text + 1) text ≡ rest
    → CutsAt mark text part rest
cut_by mark text part rest lt front back = record {
  parts = slice_split_first (is_mark mark) text 0 lt
      ∙ ap (λ v. v ∷ between_marks mark (drop (before mark text + 1) text)) front
      ∙ ap (λ v. part ∷ between_marks mark v) back;
  shorter = let e : length (drop (before mark text + 1) text) ≡ length rest = ap length back in
      omega (arith, length-drop (before mark text + 1) text);
}

pub cut_at : (mark : ℕ) (text part rest : List ℕ) → around mark text ≡ Some (part, rest)
    → CutsAt mark text part rest
cut_at mark text part rest e = go (ltb (before mark text) (length text)) refl e
  where
    go : (b : Bool) → ltb (before mark text) (length text) ≡ b
        → option_map (sides text) (cond b (Some (before mark text)) None) ≡ Some (part, rest)
        → CutsAt mark text part rest
    go true t e =
        let both : sides text (before mark text) ≡ (part, rest) = cc in
        cut_by mark text part rest (ltb-true _ _ t) (ap (λ v. v.0) both) (ap (λ v. v.1) both)
    go false t e = absurd cc

pub first_of_parts : (mark : ℕ) (text part rest : List ℕ) → around mark text ≡ Some (part, rest)
    → between_marks mark text ≡ part ∷ between_marks mark rest
first_of_parts mark text part rest e = (cut_at mark text part rest e).parts

-- ---- words

words_of_cut : (text part rest : List ℕ) → around 32 text ≡ Some (part, rest)
    → words_between text
    ≡ cond (is_some_text part) (part ∷ words_between rest) (words_between rest)
words_of_cut text part rest e =
    ap (λ parts. filter is_some_text parts) (first_of_parts 32 text part rest e)

some_text : (text : List ℕ) → 0 < length text → is_some_text text ≡ true
some_text [] h = absurd (omega (arith, h))
some_text (x ∷ xs) h = refl

pub nonzero : (n : ℕ) → eqb n 0 ≡ false → 0 < n
nonzero zero e = absurd cc
nonzero (suc n) e = omega arith

no_text : (text : List ℕ) → length text ≡ 0 → text ≡ []
no_text [] h = refl
no_text (x ∷ xs) h = absurd (omega (arith, h))

-- a word
pub word_here : (text part rest : List ℕ) → around 32 text ≡ Some (part, rest)
    → 0 < length part → words_between text ≡ part ∷ words_between rest
word_here text part rest e some =
    words_of_cut text part rest e
    ∙ ap (λ b. cond b (part ∷ words_between rest) (words_between rest)) (some_text part some)

-- an empty part
pub word_passed : (text part rest : List ℕ) → around 32 text ≡ Some (part, rest)
    → length part ≡ 0 → words_between rest ≡ words_between text
word_passed text part rest e none =
    sym (words_of_cut text part rest e
    ∙ ap (λ v. cond (is_some_text v) (v ∷ words_between rest) (words_between rest))
    (no_text part none))

pub word_shorter : (text part rest : List ℕ) → around 32 text ≡ Some (part, rest)
    → length rest < length text
word_shorter text part rest e = (cut_at 32 text part rest e).shorter

-- the last word
pub last_word : (text end : List ℕ) → around 32 text ≡ None → 0 < length text
    → length end ≡ 0 → words_between text ≡ text ∷ words_between end
last_word text end e some none =
    ap (λ parts. filter is_some_text parts) (one_part 32 text e)
    ∙ ap (λ b. cond b (text ∷ []) []) (some_text text some)
    ∙ ap (λ v. text ∷ words_between v) (sym (no_text end none))

pub no_word : (text : List ℕ) → length text ≡ 0 → words_between text ≡ []
no_word text none = ap words_between (no_text text none)

-- what the next word is
pub ruleset words = (word_here, word_passed, word_shorter, last_word, no_word)

-- ---- the parts of a loop

-- the parts behind a mark, if there is one
abbrev pub parts_behind : ℕ → Option (Bor (List ℕ)) → List (List ℕ)
parts_behind mark rest = option_map_or (λ text. between_marks mark text.now) rest []

-- these resumptions, and those of the parts
abbrev pub resumptions_and : List Resumption → List (List ℕ) → Option (List Resumption)
resumptions_and front parts = option_map (λ others. front ++ others) (resumptions_in parts)
