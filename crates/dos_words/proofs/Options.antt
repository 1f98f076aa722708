-- Allowed pairs are options that clap finds, each once, and their rows have the same values.
use Rattle.std.proofs.Common.{◌≡◌, ◌∙◌, Bool, cond, true, false, not, refl, sym, ap, ap₂, subst}
use Rattle.std.proofs.Common.{◌||◌, List, [], ◌∷◌, ◌++◌, map, Option, Some, None, find}
use Rattle.std.specs.Prelude.{codes, option_and_then, slice_get, is_some, unwrap_or}
use Rattle.std.specs.List.{list_all, list_any, AllByRecursion}
use Rattle.std.specs.Str.{bytes_eq}
use Rattle.std.proofs.lemmas.Bool.{and_parts}
use Rattle.std.proofs.lemmas.Slice.Eq.{bytes_eq-Decides}
use Rattle.clap.specs.Lexer.{long_of}
use Rattle.clap.specs.Walk.{Row, Rule, has_row, first_of, all_of, arg_by_long, arg_by_id}
use Rattle.clap.specs.Simple.{Shape}
use Rattle.dos_words.specs.Numbers.{Text}
use Rattle.dos_words.specs.Canonical.{Pairs, dashed, value_in, are_once, is_option_allowed}
use Rattle.dos_words.proofs.Walks.{option_built, IsOption, IsOptionWord, row_of_pair, id_of}
use Rattle.dos_words.proofs.Walks.{rows_of, AreOptions, AreFresh}
use Rattle.dos_words.proofs.Levels.{names_rows}
use Rattle.dos_words.proofs.Splits.{HavePlain}

-- ---- texts

pub same_text : (a b : Text) → bytes_eq a b ≡ true → a ≡ b
same_text a b e = (bytes_eq-Decides a b).0 e

pub either_way : (a b : Text) → bytes_eq a b ≡ bytes_eq b a
either_way a b = go (bytes_eq a b) (bytes_eq b a) refl refl
  where
    go : (x y : Bool) → bytes_eq a b ≡ x → bytes_eq b a ≡ y → x ≡ y
    go true true e f = refl
    go false false e f = refl
    go true false e f = sym ((bytes_eq-Decides b a).1 (sym (same_text a b e))) ∙ f
    go false true e f = sym e ∙ (bytes_eq-Decides a b).1 (sym (same_text b a f))

-- ---- what clap finds by each name, as one equation

abbrev Facts : Type 0
Facts = Option Rule × Option Rule × Option (Text × Option Text) × Bool × Bool

abbrev pub facts : Shape → Text → Facts
facts shape id = (
  arg_by_long shape.rules id,
  arg_by_id shape.rules id,
  long_of (dashed id),
  bytes_eq (dashed id) (45 ∷ 45 ∷ []),
  bytes_eq id (codes "names"),
)

abbrev pub facts_wanted : Text → Facts
facts_wanted id = (Some (option_built id), Some (option_built id), Some (id, None), false, false)

first_facts : (x y : Facts) (xs ys : List Facts) → (x ∷ xs) ≡ (y ∷ ys) → (x ≡ y) × (xs ≡ ys)
first_facts x y xs ys e = (cc, cc)

is_option : (shape : Shape) (id : Text) → facts shape id ≡ facts_wanted id → IsOption shape id
is_option shape id e = record {
  by_long = ap (λ (f : Facts). f.0) e;
  by_id = ap (λ (f : Facts). f.1) e;
  is_long = ap (λ (f : Facts). f.2) e;
  is_no_end = ap (λ (f : Facts). f.3) e;
  is_no_name = ap (λ (f : Facts). f.4) e;
}

pub are_options : (shape : Shape) (ids : List Text)
    → map (facts shape) ids ≡ map facts_wanted ids → AllByRecursion (IsOption shape) ids
are_options shape [] e = tt
are_options shape (id ∷ ids) e =
    let parts = first_facts (facts shape id) (facts_wanted id) (map (facts shape) ids)
    (map facts_wanted ids) e in
    (is_option shape id parts.0, are_options shape ids parts.1)

-- ---- allowed pairs

word_by : (shape : Shape) (ids : List Text) (word : Text) → AllByRecursion (IsOption shape) ids
    → list_any (λ id. bytes_eq word (dashed id)) ids ≡ true → IsOptionWord shape word
word_by shape [] word options e = absurd cc
word_by shape (id ∷ ids) word options e =
    go (bytes_eq word (dashed id)) refl e (word_by shape ids word options.1)
  where
    go : (b : Bool) → bytes_eq word (dashed id) ≡ b
        → (b || list_any (λ (x : Text). bytes_eq word (dashed x)) ids) ≡ true
        → (list_any (λ (x : Text). bytes_eq word (dashed x)) ids ≡ true → IsOptionWord shape word)
        → IsOptionWord shape word
    go true is e later = subst (IsOptionWord shape) (sym (same_text word (dashed id) is))
        (record { is_dashed = refl; is_option = options.0 })
    go false is e later = later e

pub options_are : (shape : Shape) (ids : List Text) (pairs : Pairs)
    → AllByRecursion (IsOption shape) ids → list_all (is_option_allowed ids) pairs ≡ true
    → HavePlain pairs → AreOptions shape pairs
options_are shape ids [] options allowed plain = tt
options_are shape ids (pair ∷ pairs) options allowed plain =
    let b = and_parts (is_option_allowed ids pair) (list_all (is_option_allowed ids) pairs) allowed
    in
    (word_by shape ids pair.0 options b.0, plain.0, options_are shape ids pairs options b.1 plain.1)

-- ---- each once

abbrev AreApart : List Row → Pairs → Type 0
AreApart rows [] = Unit {0}
AreApart rows (pair ∷ pairs) = (has_row (id_of pair.0) rows ≡ false) × AreApart rows pairs

or_false : (b : Bool) → (b || false) ≡ b
or_false true = refl
or_false false = refl

or_joins : (a b c : Bool) → (a || (b || c)) ≡ ((a || b) || c)
or_joins true b c = refl
or_joins false b c = refl

one_row_more : (id : Text) (rows : List Row) (r : Row)
    → has_row id (rows ++ r ∷ []) ≡ (has_row id rows || bytes_eq r.id id)
one_row_more id [] r = or_false (bytes_eq r.id id)
one_row_more id (x ∷ rows) r =
    ap (λ (b : Bool). bytes_eq x.id id || b) (one_row_more id rows r)
    ∙ or_joins (bytes_eq x.id id) (has_row id rows) (bytes_eq r.id id)

none_first : (b : Bool) (value : Text) (rest : Option Text)
    → is_some (cond b (Some value) rest) ≡ false → (b ≡ false) × (is_some rest ≡ false)
none_first true value rest e = absurd cc
none_first false value rest e = (refl, e)

-- The words are the same where the options are.
same_test : (shape : Shape) (a b : Text) → IsOptionWord shape a → IsOptionWord shape b
    → bytes_eq a b ≡ bytes_eq (id_of a) (id_of b)
same_test shape a b p q = ap₂ bytes_eq p.is_dashed q.is_dashed

apart_more : (shape : Shape) (pair : Text × Text) (pairs : Pairs) (rows : List Row)
    → IsOptionWord shape pair.0 → AreOptions shape pairs
    → is_some (value_in pairs pair.0) ≡ false → AreApart rows pairs
    → AreApart (rows ++ row_of_pair pair ∷ []) pairs
apart_more shape pair [] rows o options none apart = tt
apart_more shape pair (q ∷ pairs) rows o options none apart =
    let b = none_first (bytes_eq pair.0 q.0) q.1 (value_in pairs pair.0) none in
    let e : bytes_eq (id_of pair.0) (id_of q.0) ≡ false =
    sym (same_test shape pair.0 q.0 o options.0) ∙ b.0 in (
      one_row_more (id_of q.0) rows (row_of_pair pair) ∙ rw (apart.0, e) refl,
      apart_more shape pair pairs rows o options.2 b.1 apart.1,
    )

not_true : (b : Bool) → not b ≡ true → b ≡ false
not_true true e = absurd cc
not_true false e = refl

fresh_from : (shape : Shape) (pairs : Pairs) (rows : List Row) → AreOptions shape pairs
    → are_once pairs ≡ true → AreApart rows pairs → AreFresh rows pairs
fresh_from shape [] rows options once apart = tt
fresh_from shape (pair ∷ pairs) rows options once apart =
    let b = and_parts (not (is_some (value_in pairs pair.0))) (are_once pairs) once in (
      apart.0,
      fresh_from shape pairs (rows ++ row_of_pair pair ∷ []) options.2 b.1
          (apart_more shape pair pairs rows options.0 options.2 (not_true _ b.0) apart.1),
    )

no_rows : (pairs : Pairs) → AreApart [] pairs
no_rows [] = tt
no_rows (pair ∷ pairs) = (refl, no_rows pairs)

pub are_fresh : (shape : Shape) (pairs : Pairs) → AreOptions shape pairs → are_once pairs ≡ true
    → AreFresh [] pairs
are_fresh shape pairs options once = fresh_from shape pairs [] options once (no_rows pairs)

-- ---- the rows read

abbrev read_first : Option Row → Option Text
read_first = option_and_then (λ (r : Row). slice_get r.values 0)

first_of_names : (id : Text) (names : List Text) → bytes_eq (codes "names") id ≡ false
    → first_of id (names_rows names) ≡ None
first_of_names id [] e = refl
first_of_names id (name ∷ names) e = rw e refl

pub reads_value : (shape : Shape) (id : Text) (pairs : Pairs) (names : List Text)
    → AreOptions shape pairs → bytes_eq (codes "names") id ≡ false
    → first_of id (rows_of pairs ++ names_rows names) ≡ value_in pairs (dashed id)
reads_value shape id [] names options e = first_of_names id names e
reads_value shape id (pair ∷ pairs) names options e =
    ap (λ (b : Bool). read_first (cond b (Some (row_of_pair pair)) (find (λ r. bytes_eq r.id id)
    (rows_of pairs ++ names_rows names)))) test
    ∙ go (bytes_eq (dashed id) pair.0) (reads_value shape id pairs names options.2 e)
  where
    test : bytes_eq (id_of pair.0) id ≡ bytes_eq (dashed id) pair.0
    test = either_way (id_of pair.0) id ∙ sym (ap (bytes_eq (dashed id)) options.0.is_dashed)

    go : (b : Bool)
        → first_of id (rows_of pairs ++ names_rows names) ≡ value_in pairs (dashed id)
        → read_first (cond b (Some (row_of_pair pair)) (find (λ r. bytes_eq r.id id)
        (rows_of pairs ++ names_rows names)))
        ≡ cond b (Some pair.1) (value_in pairs (dashed id))
    go true h = refl
    go false h = h

names_here : (names : List Text) → unwrap_or (all_of (codes "names") (names_rows names)) [] ≡ names
names_here [] = refl
names_here (name ∷ names) = refl

pub reads_names : (shape : Shape) (pairs : Pairs) (names : List Text) → AreOptions shape pairs
    → unwrap_or (all_of (codes "names") (rows_of pairs ++ names_rows names)) [] ≡ names
reads_names shape [] names options = names_here names
reads_names shape (pair ∷ pairs) names options =
    rw options.0.is_option.is_no_name (reads_names shape pairs names options.2)
