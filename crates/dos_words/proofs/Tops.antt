-- What clap makes of words that begin with the name of a command.
use Rattle.std.proofs.Common.{◌≡◌, ◌∙◌, false, refl, sym, ap, append-nil, append_assoc, List, []}
use Rattle.std.proofs.Common.{◌∷◌, ◌++◌, Some, find}
use Rattle.std.specs.Prelude.{option_map}
use Rattle.std.specs.List.{fold}
use Rattle.clap.specs.Walk.{Names, Rule, Walk, walked, walk, walk_from, nothing_held, answers_to}
use Rattle.clap.specs.Walk.{rows_after, stop_after}
use Rattle.clap.specs.Simple.{App, Shape, names_of, label_of, entered, rows_at}
use Rattle.clap.specs.Faults.{walk_fault, turn_fault, defaults_fault, level_fault, built_fault}
use Rattle.clap.specs.Kinds.{Kinds, or_else}
use Rattle.clap.proofs.FaultLemmas.{stopped_fault}
use Rattle.dos_words.specs.Numbers.{Text}

-- the walk stopped at a command's name, with the words behind it
abbrev pub stopped_at : Text → List Text → Walk
stopped_at name words = record (walk_from nothing_held) { stopped = Some (name, words) }

-- the app has no arguments of its own, and enters the shape by the name
pub record Enters (a : App) (name : Text) (shape : Shape) : Type 0 where
  pub no_rules : a.top.rules ≡ []
  pub negates_none : a.top.subcommand_negates_reqs ≡ false
  pub first : walked a.top.rules (names_of a) (walk_from nothing_held) name ≡ stopped_at name []
  pub turn : turn_fault a.top (names_of a) (walk_from nothing_held) name ≡ []
  pub finds : find (λ s. answers_to name (label_of s)) a.subs ≡ Some shape

rest_kept : (rules : List Rule) (names : Names) (name : Text) (before words : List Text)
    → fold (walked rules names) (stopped_at name before) words ≡ stopped_at name (before ++ words)
unfolding walked
rest_kept rules names name before [] = ap (stopped_at name) (sym (append-nil before))
rest_kept rules names name before (x ∷ words) =
    rest_kept rules names name (before ++ x ∷ []) words
    ∙ ap (stopped_at name) (append_assoc before (x ∷ []) words)

top_walk : (a : App) (name : Text) (shape : Shape) (words : List Text) → Enters a name shape
    → walk a.top.rules (names_of a) nothing_held (name ∷ words) ≡ stopped_at name words
top_walk a name shape words enters =
    ap (λ (w : Walk). fold (walked a.top.rules (names_of a)) w words) enters.first
    ∙ rest_kept a.top.rules (names_of a) name [] words

top_fault : (a : App) (name : Text) (shape : Shape) (words : List Text) → Enters a name shape
    → walk_fault a.top (names_of a) (walk_from nothing_held) (name ∷ words) ≡ []
unfolding walk_fault
top_fault a name shape words enters =
    rw enters.turn (ap (λ (w : Walk). walk_fault a.top (names_of a) w words) enters.first
    ∙ stopped_fault a.top (names_of a) (walk_from nothing_held) (name, []) words)

or_nothing : (k : Kinds) → or_else k [] ≡ k
or_nothing [] = refl
or_nothing (x ∷ k) = refl

-- the faults are the command's
pub fault_is : (a : App) (name : Text) (shape : Shape) (words : List Text) → Enters a name shape
    → built_fault a nothing_held (name ∷ words) ≡ level_fault shape [] nothing_held words false []
unfolding defaults_fault
fault_is a name shape words enters =
    rw (
      top_fault a name shape words enters,
      top_walk a name shape words enters,
      enters.finds,
      enters.no_rules,
      enters.negates_none,
    ) (or_nothing _)

-- and so are the values
pub entered_is : (a : App) (name : Text) (shape : Shape) (words : List Text) → Enters a name shape
    → entered a (stop_after a.top.rules (names_of a) (name ∷ words))
    ≡ Some (shape.name, rows_after shape.rules [] words)
entered_is a name shape words enters =
    ap (λ (w : Walk). entered a w.stopped) (top_walk a name shape words enters)
    ∙ ap (option_map (λ (s : Shape). rows_at s words)) enters.finds
