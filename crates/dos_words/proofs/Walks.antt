-- How clap walks over options and their values, at the level of one command.
use Rattle.std.proofs.Common.{◌≡◌, ◌∙◌, ℕ, Bool, cond, true, false, refl, sym, ap, subst, ◌||◌}
use Rattle.std.proofs.Common.{append-nil, append_assoc, List, [], ◌∷◌, ◌++◌, Option, Some, None}
use Rattle.std.proofs.Common.{eqb}
use Rattle.std.specs.Prelude.{codes, drop}
use Rattle.std.specs.List.{fold}
use Rattle.std.specs.Str.{bytes_eq}
use Rattle.std.proofs.lemmas.Slice.Eq.{bytes_eq-Decides}
use Rattle.clap.specs.Lexer.{long_of}
use Rattle.clap.specs.Walk.{Held, Row, Rule, Waiting, idle, option, Walk, walked, settled_rows}
use Rattle.clap.specs.Walk.{has_row, is_pending, with_values, without, at_row, reading_by}
use Rattle.clap.specs.Walk.{more_values, arg_by_long, arg_by_id}
use Rattle.clap.specs.Simple.{Shape, filled, with_index}
use Rattle.clap.specs.declared.builder.value_parser.Reading.{Reading}
use Rattle.clap.specs.declared.parser.matches.ValueSource.TheVariants.{CommandLine}
use Rattle.clap.specs.Faults.{settle_fault, walk_fault, turn_fault}
use Rattle.clap.specs.Kinds.{Kinds, or_else}
use Rattle.dos_words.specs.Numbers.{Text}
use Rattle.dos_words.specs.Canonical.{Pairs, dashed}
use Rattle.dos_words.specs.Clap.{option_rule, names_rule}

-- ---- the rules as clap builds them

abbrev pub option_built : Text → Rule
option_built id = filled (option_rule id)

abbrev pub names_built : Rule
names_built = with_index 1 (filled names_rule)

-- all values are read as text
abbrev pub as_text : Reading
as_text = reading_by names_built

-- what clap finds by an option's name
pub record IsOption (shape : Shape) (id : Text) : Type 0 where
  pub by_long : arg_by_long shape.rules id ≡ Some (option_built id)
  pub by_id : arg_by_id shape.rules id ≡ Some (option_built id)
  pub is_long : long_of (dashed id) ≡ Some (id, None)
  pub is_no_end : bytes_eq (dashed id) (45 ∷ 45 ∷ []) ≡ false
  pub is_no_name : bytes_eq id (codes "names") ≡ false

-- ---- places of the walk

abbrev pub Pending : Type 0
Pending = Option (Text × List Text)

abbrev pub held : List Row → Pending → Held
held rows p = record { rows = rows; pending = p; skip = 0 }

abbrev pub at : List Row → Pending → Waiting → Walk
at rows p waiting = record {
  held = held rows p;
  waiting = waiting;
  position = 1;
  is_trailing = false;
  stopped = None;
}

abbrev pub row_of : Text → List Text → Row
row_of id values = record {
  id = id;
  values = values;
  count = None;
  source = Some CommandLine;
  reading = as_text;
}

-- ---- one option and its value

option_after : (shape : Shape) (id : Text) (rows : List Row) (p : Pending) → IsOption shape id
    → walked shape.rules [] (at rows p idle) (dashed id)
    ≡ at (settled_rows shape.rules p rows) (Some (id, [])) (option id)
unfolding walked
option_after shape id rows p o = rw (o.is_no_end, o.is_long, o.by_long) refl

option_turn : (shape : Shape) (id : Text) (rows : List Row) (p : Pending) → IsOption shape id
    → turn_fault shape [] (at rows p idle) (dashed id)
    ≡ or_else (settle_fault shape.rules shape.args_override_self (held rows p)) []
option_turn shape id rows p o = rw (o.is_no_end, o.is_long, o.by_long) refl

same : (id : Text) → bytes_eq id id ≡ true
same id = (bytes_eq-Decides id id).1 refl

value_after : (shape : Shape) (id : Text) (rows : List Row) (x : ℕ) (xs : Text)
    → IsOption shape id → eqb x 45 ≡ false
    → walked shape.rules [] (at rows (Some (id, [])) (option id)) (x ∷ xs)
    ≡ at rows (Some (id, (x ∷ xs) ∷ [])) idle
unfolding walked
value_after shape id rows x xs o ne = rw (ne, ne, o.by_id, same id) refl

value_turn : (shape : Shape) (id : Text) (rows : List Row) (x : ℕ) (xs : Text)
    → IsOption shape id → eqb x 45 ≡ false
    → turn_fault shape [] (at rows (Some (id, [])) (option id)) (x ∷ xs) ≡ []
value_turn shape id rows x xs o ne = rw (ne, ne) refl

value_settles : (shape : Shape) (id : Text) (rows : List Row) (value : Text) → IsOption shape id
    → settled_rows shape.rules (Some (id, value ∷ [])) rows
    ≡ with_values id as_text CommandLine (value ∷ []) (without id rows)
value_settles shape id rows value o = rw o.by_id refl

value_fault : (shape : Shape) (id : Text) (rows : List Row) (value : Text) → IsOption shape id
    → has_row id rows ≡ false
    → settle_fault shape.rules false (held rows (Some (id, value ∷ []))) ≡ []
value_fault shape id rows value o none = rw (o.by_id, none) refl

-- ---- rows

pub at_row_none : (id : Text) (change : Row → List Row) (missing rows : List Row)
    → has_row id rows ≡ false → at_row id change missing rows ≡ rows ++ missing
at_row_none id change missing [] none = refl
at_row_none id change missing (r ∷ rs) none =
    go (bytes_eq r.id id) (has_row id rs) none (at_row_none id change missing rs)
  where
    go : (b c : Bool) → (b || c) ≡ false
        → (c ≡ false → at_row id change missing rs ≡ rs ++ missing)
        → cond b (change r ++ rs) (r ∷ at_row id change missing rs) ≡ r ∷ (rs ++ missing)
    go true c e h = absurd cc
    go false c e h = ap (λ (xs : List Row). r ∷ xs) (h e)

pub adds_row : (id : Text) (values : List Text) (rows : List Row) → has_row id rows ≡ false
    → with_values id as_text CommandLine values (without id rows) ≡ rows ++ row_of id values ∷ []
adds_row id values rows none =
    let gone : without id rows ≡ rows =
    at_row_none id (λ _. []) [] rows none ∙ append-nil rows in
    ap (with_values id as_text CommandLine values) gone
    ∙ at_row_none id (more_values CommandLine values) (row_of id values ∷ []) rows none

-- ---- pairs of an option and its value

-- the option of a word
abbrev pub id_of : Text → Text
id_of word = drop 2 word

pub record IsOptionWord (shape : Shape) (word : Text) : Type 0 where
  pub is_dashed : word ≡ dashed (id_of word)
  pub is_option : IsOption shape (id_of word)

abbrev pub IsPlain : Text → Type 0
IsPlain [] = ⊥
IsPlain (x ∷ xs) = eqb x 45 ≡ false

abbrev pub AreOptions : Shape → Pairs → Type 0
AreOptions shape [] = Unit {0}
AreOptions shape (pair ∷ pairs) =
    IsOptionWord shape pair.0 × IsPlain pair.1 × AreOptions shape pairs

-- the words of the pairs, and what is behind them
abbrev pub words_of : Pairs → List Text → List Text
words_of [] rest = rest
words_of (pair ∷ pairs) rest = pair.0 ∷ pair.1 ∷ words_of pairs rest

abbrev pub row_of_pair : Text × Text → Row
row_of_pair pair = row_of (id_of pair.0) (pair.1 ∷ [])

abbrev pub rows_of : Pairs → List Row
rows_of [] = []
rows_of (pair ∷ pairs) = row_of_pair pair ∷ rows_of pairs

-- no option has a row before its pair
abbrev pub AreFresh : List Row → Pairs → Type 0
AreFresh rows [] = Unit {0}
AreFresh rows (pair ∷ pairs) =
    (has_row (id_of pair.0) rows ≡ false) × AreFresh (rows ++ row_of_pair pair ∷ []) pairs

pub fault_step : (shape : Shape) (w : Walk) (word : Text) (words : List Text)
    → turn_fault shape [] w word ≡ []
    → walk_fault shape [] w (word ∷ words)
    ≡ walk_fault shape [] (walked shape.rules [] w word) words
unfolding walk_fault
fault_step shape w word words turn = rw turn refl

-- from one place of the walk to another, over some words
pub record Goes (shape : Shape) (w : Walk) (words : List Text) (v : Walk) (rest : List Text)
    : Type 0 where
  pub faults : walk_fault shape [] w words ≡ walk_fault shape [] v rest
  pub walks : fold (walked shape.rules []) w words ≡ fold (walked shape.rules []) v rest

pub one_word : (shape : Shape) (w v : Walk) (word : Text) (words : List Text)
    → walked shape.rules [] w word ≡ v → turn_fault shape [] w word ≡ []
    → Goes shape w (word ∷ words) v words
one_word shape w v word words step turn = record {
  faults = fault_step shape w word words turn
      ∙ ap (λ (u : Walk). walk_fault shape [] u words) step;
  walks = ap (λ (u : Walk). fold (walked shape.rules []) u words) step;
}

pub and_then : (shape : Shape) (w v u : Walk) (a b c : List Text) → Goes shape w a v b
    → Goes shape v b u c → Goes shape w a u c
and_then shape w v u a b c first second =
    record { faults = first.faults ∙ second.faults; walks = first.walks ∙ second.walks }

option_goes : (shape : Shape) (rows : List Row) (p : Pending) (word : Text) (words : List Text)
    → shape.args_override_self ≡ false → IsOptionWord shape word
    → settle_fault shape.rules false (held rows p) ≡ []
    → Goes shape (at rows p idle) (word ∷ words)
    (at (settled_rows shape.rules p rows) (Some (id_of word, [])) (option (id_of word))) words
option_goes shape rows p word words once o fault =
    let id : Text = id_of word in
    let turn : turn_fault shape [] (at rows p idle) (dashed id) ≡ [] =
    option_turn shape id rows p o.is_option
    ∙ ap (λ (b : Bool). or_else (settle_fault shape.rules b (held rows p)) []) once
    ∙ ap (λ (k : Kinds). or_else k []) fault in
    one_word shape _ _ word words
    (ap (walked shape.rules [] (at rows p idle)) o.is_dashed
    ∙ option_after shape id rows p o.is_option)
    (ap (turn_fault shape [] (at rows p idle)) o.is_dashed ∙ turn)

value_goes : (shape : Shape) (rows : List Row) (id value : Text) (words : List Text)
    → IsOption shape id → IsPlain value
    → Goes shape (at rows (Some (id, [])) (option id)) (value ∷ words)
    (at rows (Some (id, value ∷ [])) idle) words
value_goes shape rows id [] words o plain = absurd plain
value_goes shape rows id (x ∷ xs) words o plain =
    one_word shape _ _ (x ∷ xs) words (value_after shape id rows x xs o plain)
    (value_turn shape id rows x xs o plain)

-- where the walk stands behind the pairs
pub record Stands (shape : Shape) (rows : List Row) (p : Pending) (pairs : Pairs)
    (rest : List Text) : Type 0 where
  pub rows_now : List Row
  pub pending_now : Pending
  pub goes : Goes shape (at rows p idle) (words_of pairs rest) (at rows_now pending_now idle) rest
  pub settles : settled_rows shape.rules pending_now rows_now
      ≡ settled_rows shape.rules p rows ++ rows_of pairs
  pub fault : settle_fault shape.rules false (held rows_now pending_now) ≡ []
  pub is_no_name : is_pending names_built pending_now ≡ false

pub pairs_walk : (shape : Shape) (pairs : Pairs) (rows : List Row) (p : Pending)
    (rest : List Text) → shape.args_override_self ≡ false → AreOptions shape pairs
    → AreFresh (settled_rows shape.rules p rows) pairs
    → settle_fault shape.rules false (held rows p) ≡ [] → is_pending names_built p ≡ false
    → Stands shape rows p pairs rest
pairs_walk shape [] rows p rest once options fresh fault apart = record {
  rows_now = rows;
  pending_now = p;
  goes = record { faults = refl; walks = refl };
  settles = sym (append-nil (settled_rows shape.rules p rows));
  fault = fault;
  is_no_name = apart;
}
pairs_walk shape (pair ∷ pairs) rows p rest once options fresh fault apart =
    let settled : List Row = settled_rows shape.rules p rows in
    let id : Text = id_of pair.0 in
    let o : IsOption shape id = options.0.is_option in
    let words : List Text = words_of pairs rest in
    let first = and_then shape _ _ _ (pair.0 ∷ pair.1 ∷ words) (pair.1 ∷ words) words
    (option_goes shape rows p pair.0 (pair.1 ∷ words) once options.0 fault)
    (value_goes shape settled id pair.1 words o options.1) in
    let settles : settled_rows shape.rules (Some (id, pair.1 ∷ [])) settled
    ≡ settled ++ row_of_pair pair ∷ [] =
    value_settles shape id settled pair.1 o ∙ adds_row id (pair.1 ∷ []) settled fresh.0 in
    let more = pairs_walk shape pairs settled (Some (id, pair.1 ∷ [])) rest once options.2
    (subst (λ (rs : List Row). AreFresh rs pairs) (sym settles) fresh.1)
    (value_fault shape id settled pair.1 o fresh.0) o.is_no_name in
    record {
      rows_now = more.rows_now;
      pending_now = more.pending_now;
      goes = and_then shape _ _ _ (pair.0 ∷ pair.1 ∷ words) words rest first more.goes;
      settles = more.settles ∙ ap (λ (rs : List Row). rs ++ rows_of pairs) settles
          ∙ append_assoc settled (row_of_pair pair ∷ []) (rows_of pairs);
      fault = more.fault;
      is_no_name = more.is_no_name;
    }
