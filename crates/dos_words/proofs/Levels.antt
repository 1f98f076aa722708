-- What clap makes of a command's canonical words.
use Rattle.std.proofs.Common.{◌≡◌, ◌∙◌, ◌≤◌, ℕ, Bool, cond, true, false, refl, sym, ap, arith, ◌||◌}
use Rattle.std.proofs.Common.{append-nil, append_assoc, List, [], ◌∷◌, ◌++◌, length, Some, None}
use Rattle.std.proofs.Common.{eqb, ltb}
use Rattle.std.specs.Prelude.{codes}
use Rattle.std.specs.List.{fold, list_all}
use Rattle.std.proofs.lemmas.Bool.{and_parts, le-ltb, ne_eqb}
use Rattle.clap.specs.Lexer.{usize_max}
use Rattle.clap.specs.Walk.{Row, Rule, Waiting, idle, positional, Walk, walked, nothing_held}
use Rattle.clap.specs.Walk.{settled_rows, has_row, is_pending, reading_by, is_empty, with_default}
use Rattle.clap.specs.Walk.{default_rows, rows_after, finished, arg_by_id, arg_by_index}
use Rattle.clap.specs.Simple.{Shape}
use Rattle.clap.specs.declared.error.kind.ErrorKind.TheVariants as kind
use Rattle.clap.specs.Faults.{settle_fault, walk_fault, turn_fault, defaults_fault, default_fault}
use Rattle.clap.specs.Faults.{given_default_fault, level_fault, check_fault, values_fault}
use Rattle.clap.specs.Kinds.{Kinds}
use Rattle.clap.proofs.SimpleLemmas.{is_nil}
use Rattle.dos_words.specs.Numbers.{Text}
use Rattle.dos_words.specs.Canonical.{Pairs}
use Rattle.dos_words.proofs.Walks.{names_built, Pending, held, at, row_of, adds_row, IsPlain}
use Rattle.dos_words.proofs.Walks.{AreOptions, words_of, rows_of, AreFresh, Goes, one_word}
use Rattle.dos_words.proofs.Walks.{and_then, pairs_walk}

-- what clap finds for the names
pub record TakesNames (shape : Shape) : Type 0 where
  pub by_index : arg_by_index shape.rules 1 ≡ Some names_built
  pub by_id : arg_by_id shape.rules (codes "names") ≡ Some names_built

-- ---- names

first_after : (shape : Shape) (rows : List Row) (p : Pending) (x : ℕ) (xs : Text)
    → TakesNames shape → eqb x 45 ≡ false → is_pending names_built p ≡ false
    → walked shape.rules [] (at rows p idle) (x ∷ xs)
    ≡ at (settled_rows shape.rules p rows) (Some (codes "names", (x ∷ xs) ∷ [])) positional
unfolding walked
first_after shape rows p x xs takes ne apart = rw (ne, ne, takes.by_index, apart) refl

first_turn : (shape : Shape) (rows : List Row) (p : Pending) (x : ℕ) (xs : Text)
    → TakesNames shape → eqb x 45 ≡ false → is_pending names_built p ≡ false
    → turn_fault shape [] (at rows p idle) (x ∷ xs)
    ≡ settle_fault shape.rules shape.args_override_self (held rows p)
first_turn shape rows p x xs takes ne apart = rw (ne, ne, takes.by_index, apart) refl

next_after : (shape : Shape) (rows : List Row) (vs : List Text) (x : ℕ) (xs : Text)
    → TakesNames shape → eqb x 45 ≡ false
    → walked shape.rules [] (at rows (Some (codes "names", vs)) positional) (x ∷ xs)
    ≡ at rows (Some (codes "names", vs ++ (x ∷ xs) ∷ [])) positional
unfolding walked
next_after shape rows vs x xs takes ne = rw (ne, ne, takes.by_index) refl

next_turn : (shape : Shape) (rows : List Row) (vs : List Text) (x : ℕ) (xs : Text)
    → TakesNames shape → eqb x 45 ≡ false
    → turn_fault shape [] (at rows (Some (codes "names", vs)) positional) (x ∷ xs) ≡ []
next_turn shape rows vs x xs takes ne = rw (ne, ne, takes.by_index) refl

-- where no names are taken
stray_turn : (shape : Shape) (rows : List Row) (p : Pending) (x : ℕ) (xs : Text)
    → shape.is_leaf ≡ true → arg_by_index shape.rules 1 ≡ None → eqb x 45 ≡ false
    → turn_fault shape [] (at rows p idle) (x ∷ xs) ≡ kind.UnknownArgument ∷ []
stray_turn shape rows p x xs leaf none ne = rw (ne, ne, none, leaf) refl

abbrev pub ArePlain : List Text → Type 0
ArePlain [] = Unit {0}
ArePlain (name ∷ names) = IsPlain name × ArePlain names

more_names : (shape : Shape) (names : List Text) (rows : List Row) (vs : List Text)
    → TakesNames shape → ArePlain names
    → Goes shape (at rows (Some (codes "names", vs)) positional) names
    (at rows (Some (codes "names", vs ++ names)) positional) []
more_names shape [] rows vs takes plain = record {
  faults = ap (λ (ws : List Text).
      walk_fault shape [] (at rows (Some (codes "names", ws)) positional) [])
      (sym (append-nil vs));
  walks = ap (λ (ws : List Text). at rows (Some (codes "names", ws)) positional)
      (sym (append-nil vs));
}
more_names shape ([] ∷ names) rows vs takes plain = absurd plain.0
more_names shape ((x ∷ xs) ∷ names) rows vs takes plain =
    let all : vs ++ (x ∷ xs) ∷ names ≡ (vs ++ (x ∷ xs) ∷ []) ++ names =
    sym (append_assoc vs ((x ∷ xs) ∷ []) names) in
    let first = one_word shape _ _ (x ∷ xs) names (next_after shape rows vs x xs takes plain.0)
    (next_turn shape rows vs x xs takes plain.0) in
    let more = more_names shape names rows (vs ++ (x ∷ xs) ∷ []) takes plain.1 in
    rw all (and_then shape _ _ _ ((x ∷ xs) ∷ names) names [] first more)

-- ---- the end of a level

same_cond : (b : Bool) (rows : List Row) → cond b rows rows ≡ rows
same_cond true rows = refl
same_cond false rows = refl

same_rows : (a : Rule) (rows : List Row) → is_empty a.defaults ≡ true → with_default rows a ≡ rows
same_rows a rows none = ap (λ (vs : List Text).
    cond (has_row a.id rows) rows (default_rows a.id (reading_by a) vs rows))
    (is_nil a.defaults none) ∙ same_cond (has_row a.id rows) rows

no_default_fault : (a : Rule) (rows : List Row) → is_empty a.defaults ≡ true
    → default_fault rows a ≡ []
no_default_fault a rows none =
    go (has_row a.id rows) (is_empty a.defaults) (given_default_fault a a.defaults) none
  where
    go : (b e : Bool) (k : Kinds) → e ≡ true → cond (b || e) [] k ≡ []
    go true e k is = refl
    go false true k is = refl
    go false false k is = absurd cc

abbrev has_no_default : Rule → Bool
has_no_default a = is_empty a.defaults

no_defaults_fault : (rules : List Rule) (rows : List Row) → list_all has_no_default rules ≡ true
    → defaults_fault rows rules ≡ []
unfolding defaults_fault
no_defaults_fault [] rows none = refl
no_defaults_fault (a ∷ rules) rows none =
    let b = and_parts (has_no_default a) (list_all has_no_default rules) none in
    rw (no_default_fault a rows b.0) (no_defaults_fault rules (with_default rows a) b.1)

no_defaults : (rules : List Rule) (rows : List Row) → list_all has_no_default rules ≡ true
    → fold with_default rows rules ≡ rows
no_defaults [] rows none = refl
no_defaults (a ∷ rules) rows none =
    let b = and_parts (has_no_default a) (list_all has_no_default rules) none in
    ap (λ (rs : List Row). fold with_default rs rules) (same_rows a rows b.0)
    ∙ no_defaults rules rows b.1

all_pass : (vs : List Text) → values_fault names_built vs ≡ []
all_pass [] = refl
all_pass (v ∷ vs) = all_pass vs

names_fault : (shape : Shape) (rows : List Row) (name : Text) (names : List Text)
    → TakesNames shape → has_row (codes "names") rows ≡ false
    → length (name ∷ names) ≤ usize_max
    → settle_fault shape.rules false (held rows (Some (codes "names", name ∷ names))) ≡ []
names_fault shape rows name names takes none few =
    let most : ltb usize_max (length (name ∷ names)) ≡ false = le-ltb _ _ few in
    let least : ltb (length (name ∷ names)) 1 ≡ false = le-ltb _ _ (omega arith) in
    let some : eqb (length (name ∷ names)) 0 ≡ false =
    ne_eqb (length (name ∷ names)) 0 (omega arith) in
    rw (takes.by_id, some, least, most, none) (all_pass (name ∷ names))

names_settle : (shape : Shape) (rows : List Row) (name : Text) (names : List Text)
    → TakesNames shape → has_row (codes "names") rows ≡ false
    → settled_rows shape.rules (Some (codes "names", name ∷ names)) rows
    ≡ rows ++ row_of (codes "names") (name ∷ names) ∷ []
names_settle shape rows name names takes none =
    rw takes.by_id (adds_row (codes "names") (name ∷ names) rows none)

no_names_row : (shape : Shape) (pairs : Pairs) → AreOptions shape pairs
    → has_row (codes "names") (rows_of pairs) ≡ false
no_names_row shape [] options = refl
no_names_row shape (pair ∷ pairs) options =
    rw (options.0.is_option.is_no_name, no_names_row shape pairs options.2) refl

-- ---- a level

-- a command that asks for nothing but its options and names
pub record IsLevel (shape : Shape) : Type 0 where
  pub once : shape.args_override_self ≡ false
  pub leaf : shape.is_leaf ≡ true
  pub no_default : list_all has_no_default shape.rules ≡ true
  pub no_check : (rows : List Row) → check_fault shape rows false ≡ []

abbrev pub names_rows : List Text → List Row
names_rows [] = []
names_rows (name ∷ names) = row_of (codes "names") (name ∷ names) ∷ []

-- the level's words are taken, and come to these rows
pub record IsTaken (shape : Shape) (words : List Text) (rows : List Row) : Type 0 where
  pub fault : level_fault shape [] nothing_held words false [] ≡ []
  pub rows_are : rows_after shape.rules [] words ≡ rows

-- where the walk ends
level_ends : (shape : Shape) (words : List Text) (rows : List Row) (p : Pending)
    (waiting : Waiting) (all : List Row) → IsLevel shape
    → Goes shape (at [] None idle) words (at rows p waiting) []
    → settle_fault shape.rules false (held rows p) ≡ [] → settled_rows shape.rules p rows ≡ all
    → IsTaken shape words all
unfolding walk_fault
level_ends shape words rows p waiting all level goes fault settles = record {
  fault = rw (
    goes.faults,
    goes.walks,
    level.once,
    fault,
    no_defaults_fault shape.rules (settled_rows shape.rules p rows) level.no_default,
  )
      (level.no_check (finished shape.rules (held rows p)));
  rows_are = ap (λ (w : Walk). finished shape.rules w.held) goes.walks
      ∙ no_defaults shape.rules (settled_rows shape.rules p rows) level.no_default ∙ settles;
}

pub pairs_taken : (shape : Shape) (pairs : Pairs) → IsLevel shape → AreOptions shape pairs
    → AreFresh [] pairs → IsTaken shape (words_of pairs []) (rows_of pairs)
pairs_taken shape pairs level options fresh =
    let s = pairs_walk shape pairs [] None [] level.once options fresh refl refl in
    level_ends shape (words_of pairs []) s.rows_now s.pending_now idle (rows_of pairs) level
    s.goes s.fault s.settles

pub names_taken : (shape : Shape) (pairs : Pairs) (name : Text) (names : List Text)
    → IsLevel shape → TakesNames shape → AreOptions shape pairs → AreFresh [] pairs
    → ArePlain (name ∷ names) → length (name ∷ names) ≤ usize_max
    → IsTaken shape (words_of pairs (name ∷ names)) (rows_of pairs ++ names_rows (name ∷ names))
names_taken shape pairs [] names level takes options fresh plain few = absurd plain.0
names_taken shape pairs (x ∷ xs) names level takes options fresh plain few =
    let all : List Text = (x ∷ xs) ∷ names in
    let s = pairs_walk shape pairs [] None all level.once options fresh refl refl in
    let rows : List Row = settled_rows shape.rules s.pending_now s.rows_now in
    let none : has_row (codes "names") rows ≡ false =
    rw s.settles (no_names_row shape pairs options) in
    let turn = first_turn shape s.rows_now s.pending_now x xs takes plain.0 s.is_no_name
    ∙ ap (λ (b : Bool). settle_fault shape.rules b (held s.rows_now s.pending_now)) level.once
    ∙ s.fault in
    let first = one_word shape _ _ (x ∷ xs) names
    (first_after shape s.rows_now s.pending_now x xs takes plain.0 s.is_no_name) turn in
    let more = more_names shape names rows ((x ∷ xs) ∷ []) takes plain.1 in
    level_ends shape (words_of pairs all) rows (Some (codes "names", all)) positional
    (rows_of pairs ++ names_rows all) level
    (and_then shape _ _ _ (words_of pairs all) all [] s.goes
    (and_then shape _ _ _ all names [] first more))
    (names_fault shape rows (x ∷ xs) names takes none few)
    (names_settle shape rows (x ∷ xs) names takes none
    ∙ ap (λ (rs : List Row). rs ++ names_rows all) s.settles)

stray_walk : (shape : Shape) (rows : List Row) (p : Pending) (x : ℕ) (xs : Text)
    (names : List Text) → IsLevel shape → arg_by_index shape.rules 1 ≡ None → eqb x 45 ≡ false
    → walk_fault shape [] (at rows p idle) ((x ∷ xs) ∷ names) ≡ kind.UnknownArgument ∷ []
unfolding walk_fault
stray_walk shape rows p x xs names level none ne =
    rw (stray_turn shape rows p x xs level.leaf none ne) refl

-- names where none are taken
pub stray_refused : (shape : Shape) (pairs : Pairs) (name : Text) (names : List Text)
    → IsLevel shape → arg_by_index shape.rules 1 ≡ None → AreOptions shape pairs
    → AreFresh [] pairs → IsPlain name
    → level_fault shape [] nothing_held (words_of pairs (name ∷ names)) false []
    ≡ kind.UnknownArgument ∷ []
stray_refused shape pairs [] names level none options fresh plain = absurd plain
stray_refused shape pairs (x ∷ xs) names level none options fresh plain =
    let s = pairs_walk shape pairs [] None ((x ∷ xs) ∷ names) level.once options fresh refl refl in
    rw (s.goes.faults, stray_walk shape s.rows_now s.pending_now x xs names level none plain) refl
