-- Canonical words ask for the same by clap.
use Rattle.std.proofs.Common.{◌≡◌, ◌∙◌, ◌≤◌, ◌⊎◌, ℕ, inl, inr, true, false, refl, sym}
use Rattle.std.proofs.Common.{ap, ap₂, subst, arith, List, [], ◌∷◌, ◌++◌, length, append-nil}
use Rattle.std.proofs.Common.{Option, Some, None, rules}
use Rattle.std.specs.Prelude.{codes, option_and_then, unwrap_or, slice_get}
use Rattle.std.specs.List.{list_all, AllByRecursion}
use Rattle.std.proofs.lemmas.Bool.{and_parts}
use Rattle.clap.specs.Lexer.{usize_max}
use Rattle.clap.specs.Walk.{Row, nothing_held, arg_by_index}
use Rattle.clap.specs.Simple.{Shape, new_shape, built, subcommand_of}
use Rattle.clap.specs.Faults.{fault_of, level_fault}
use Rattle.clap.specs.Kinds.{Kinds}
use Rattle.clap.specs.declared.error.kind.ErrorKind.TheVariants as kind
use Rattle.clap.proofs.OnLiterals.{clap_on_literals}
use Rattle.dos_words.specs.declared.request.Request.{Request}
use Rattle.dos_words.specs.Numbers.{Text}
use Rattle.dos_words.specs.Asked.{Values, run_asked, replay_asked, inspect_asked, gen_asked}
use Rattle.dos_words.specs.Asked.{debug_asked, migrate_asked, resume_asked, save_asked, trace_asked}
use Rattle.dos_words.specs.Commands.{Command, run, replay, inspect, gen, migrate, commands}
use Rattle.dos_words.specs.Commands.{command_named, debug_command, resume_command, save_command}
use Rattle.dos_words.specs.Commands.{trace_command}
use Rattle.dos_words.specs.Canonical.{Pairs, pairs_and_names, are_once, is_option_allowed}
use Rattle.dos_words.specs.Canonical.{are_allowed}
use Rattle.dos_words.specs.Canonical.{values_in, canonical}
use Rattle.dos_words.specs.Clap.{words_app, values_among, names_among, asked_by, where_taken}
use Rattle.dos_words.specs.Clap.{clap_request}
use Rattle.dos_words.specs.Request.{request_by, request}
use Rattle.dos_words.proofs.Walks.{IsOption, AreOptions, AreFresh, words_of, rows_of}
use Rattle.dos_words.proofs.Levels.{TakesNames, IsLevel, ArePlain, IsTaken, names_rows, pairs_taken}
use Rattle.dos_words.proofs.Levels.{names_taken, stray_refused}
use Rattle.dos_words.proofs.Tops.{Enters, fault_is, entered_is}
use Rattle.dos_words.proofs.Splits.{Parts, Splits, splits, few_names}
use Rattle.dos_words.proofs.RangeLaws.{bind_some, guard_some, named_in}
use Rattle.dos_words.proofs.Options.{same_text, are_options, options_are, are_fresh, either_way}
use Rattle.dos_words.proofs.Options.{reads_value, reads_names}

-- ---- the commands as clap builds them

-- the values agree on these options
abbrev AgreeOn : List Text → Values → Values → Type 0
AgreeOn ids v w = AllByRecursion (λ (id : Text). v id ≡ w id) ids

-- It takes names, or asks for nothing with names.
abbrev TreatsNames : Command → Shape → Type 0
TreatsNames command shape = TakesNames shape
    ⊎ ((arg_by_index shape.rules 1 ≡ None)
    × ((v : Values) (name : Text) (names : List Text) → command.asked v (name ∷ names) ≡ None))

record IsBuilt (command : Command) (shape : Shape) : Type 0 where
  enters : Enters (built words_app) command.name shape
  name_is : shape.name ≡ command.name
  itself : command_named command.name ≡ Some command
  level : IsLevel shape
  options : AllByRecursion (IsOption shape) command.options
  treats_names : TreatsNames command shape
  -- It asks for its own options alone.
  asks : (v w : Values) (names : List Text) → AgreeOn command.options v w
      → command.asked v names ≡ command.asked w names

-- the command at this place, as it is built
abbrev shape_at : ℕ → Shape
shape_at place = unwrap_or (slice_get (built words_app).subs place) (new_shape [])

run_asks : (v w : Values) (names : List Text) → AgreeOn run.options v w
    → run_asked v names ≡ run_asked w names
run_asks v w names h = let more = h.1.1.1.1 in
    rw (
      h.0,
      h.1.0,
      h.1.1.0,
      h.1.1.1.0,
      more.0,
      more.1.0,
      more.1.1.0,
      more.1.1.1.0,
      more.1.1.1.1.0,
    ) refl

replay_asks : (v w : Values) (names : List Text) → AgreeOn replay.options v w
    → replay_asked v names ≡ replay_asked w names
replay_asks v w names h = rw (h.0, h.1.0, h.1.1.0) refl

inspect_asks : (v w : Values) (names : List Text) → inspect_asked v names ≡ inspect_asked w names
inspect_asks v w [] = refl
inspect_asks v w (name ∷ []) = refl
inspect_asks v w (name ∷ other ∷ names) = refl

gen_asks : (v w : Values) (names : List Text) → AgreeOn gen.options v w
    → gen_asked v names ≡ gen_asked w names
gen_asks v w [] h = rw (h.0, h.1.0, h.1.1.0) refl
gen_asks v w (name ∷ names) h = refl

migrate_asks : (v w : Values) (names : List Text) → AgreeOn migrate.options v w
    → migrate_asked v names ≡ migrate_asked w names
migrate_asks v w [] h = rw (h.0, h.1.0) refl
migrate_asks v w (name ∷ names) h = refl

trace_asks : (v w : Values) (names : List Text) → AgreeOn trace_command.options v w
    → trace_asked v names ≡ trace_asked w names
trace_asks v w names h = rw (h.0, h.1.0) refl

save_asks : (v w : Values) (names : List Text) → AgreeOn save_command.options v w
    → save_asked v names ≡ save_asked w names
save_asks v w names h = rw (h.0, h.1.0, h.1.1.0, h.1.1.1.0) refl

resume_asks : (v w : Values) (names : List Text) → AgreeOn resume_command.options v w
    → resume_asked v names ≡ resume_asked w names
resume_asks v w [] h = rw (h.0, h.1.0, h.1.1.0) refl
resume_asks v w (name ∷ names) h = refl

debug_asks : (v w : Values) (names : List Text) → AgreeOn debug_command.options v w
    → debug_asked v names ≡ debug_asked w names
debug_asks v w names h = rw (h.0, h.1.0) refl

run_is_built : IsBuilt run (shape_at 0)
unfolding clap_on_literals
run_is_built = record {
  enters = search rules;
  name_is = refl;
  itself = refl;
  level = search rules;
  options = are_options (shape_at 0) run.options refl;
  treats_names = inl (record { by_index = refl; by_id = refl });
  asks = run_asks;
}

replay_is_built : IsBuilt replay (shape_at 1)
unfolding clap_on_literals
replay_is_built = record {
  enters = search rules;
  name_is = refl;
  itself = refl;
  level = search rules;
  options = are_options (shape_at 1) replay.options refl;
  treats_names = inl (record { by_index = refl; by_id = refl });
  asks = replay_asks;
}

inspect_is_built : IsBuilt inspect (shape_at 2)
unfolding clap_on_literals
inspect_is_built = record {
  enters = search rules;
  name_is = refl;
  itself = refl;
  level = search rules;
  options = are_options (shape_at 2) inspect.options refl;
  treats_names = inl (record { by_index = refl; by_id = refl });
  asks = λ v w names h. inspect_asks v w names;
}

gen_is_built : IsBuilt gen (shape_at 3)
unfolding clap_on_literals
gen_is_built = record {
  enters = search rules;
  name_is = refl;
  itself = refl;
  level = search rules;
  options = are_options (shape_at 3) gen.options refl;
  treats_names = inr (refl, λ v name names. refl);
  asks = gen_asks;
}

migrate_is_built : IsBuilt migrate (shape_at 4)
unfolding clap_on_literals
migrate_is_built = record {
  enters = search rules;
  name_is = refl;
  itself = refl;
  level = search rules;
  options = are_options (shape_at 4) migrate.options refl;
  treats_names = inr (refl, λ v name names. refl);
  asks = migrate_asks;
}

trace_is_built : IsBuilt trace_command (shape_at 5)
unfolding clap_on_literals
trace_is_built = record {
  enters = search rules;
  name_is = refl;
  itself = refl;
  level = search rules;
  options = are_options (shape_at 5) trace_command.options refl;
  treats_names = inl (record { by_index = refl; by_id = refl });
  asks = trace_asks;
}

save_is_built : IsBuilt save_command (shape_at 6)
unfolding clap_on_literals
save_is_built = record {
  enters = search rules;
  name_is = refl;
  itself = refl;
  level = search rules;
  options = are_options (shape_at 6) save_command.options refl;
  treats_names = inl (record { by_index = refl; by_id = refl });
  asks = save_asks;
}

resume_is_built : IsBuilt resume_command (shape_at 7)
unfolding clap_on_literals
resume_is_built = record {
  enters = search rules;
  name_is = refl;
  itself = refl;
  level = search rules;
  options = are_options (shape_at 7) resume_command.options refl;
  treats_names = inr (refl, λ v name names. refl);
  asks = resume_asks;
}

debug_is_built : IsBuilt debug_command (shape_at 8)
unfolding clap_on_literals
debug_is_built = record {
  enters = search rules;
  name_is = refl;
  itself = refl;
  level = search rules;
  options = are_options (shape_at 8) debug_command.options refl;
  treats_names = inl (record { by_index = refl; by_id = refl });
  asks = debug_asks;
}

-- ---- canonical words of one command

-- what clap makes of it
clap_is : (command : Command) (shape : Shape) (words : List Text) (rows : List Row)
    → IsBuilt command shape → IsTaken shape words rows
    → clap_request (command.name ∷ words)
    ≡ command.asked (values_among rows) (names_among rows)
clap_is command shape words rows b taken =
    let fault : fault_of words_app (command.name ∷ words) ≡ [] =
    fault_is (built words_app) command.name shape words b.enters ∙ taken.fault in
    let found : subcommand_of words_app (command.name ∷ words) ≡ Some (command.name, rows) =
    entered_is (built words_app) command.name shape words b.enters
    ∙ ap₂ (λ (name : Text) (rs : List Row). Some (name, rs)) b.name_is taken.rows_are in
    ap₂ where_taken fault (ap (option_and_then asked_by) found)
    ∙ ap (option_and_then (λ (c : Command). c.asked (values_among rows) (names_among rows)))
    b.itself

values_agree : (shape : Shape) (ids : List Text) (pairs : Pairs) (names : List Text)
    → AllByRecursion (IsOption shape) ids → AreOptions shape pairs
    → AgreeOn ids (values_among (rows_of pairs ++ names_rows names)) (values_in pairs)
values_agree shape [] pairs names options are = tt
values_agree shape (id ∷ ids) pairs names options are = (
  reads_value shape id pairs names are
      (either_way (codes "names") id ∙ options.0.is_no_name),
  values_agree shape ids pairs names options.1 are,
)

-- where clap takes them
where_it_takes : (command : Command) (shape : Shape) (pairs : Pairs) (names : List Text)
    → IsBuilt command shape → AreOptions shape pairs
    → IsTaken shape (words_of pairs names) (rows_of pairs ++ names_rows names)
    → clap_request (command.name ∷ words_of pairs names) ≡ command.asked (values_in pairs) names
where_it_takes command shape pairs names b are taken =
    let rows : List Row = rows_of pairs ++ names_rows names in
    clap_is command shape (words_of pairs names) rows b taken
    ∙ ap (command.asked (values_among rows)) (reads_names shape pairs names are)
    ∙ b.asks (values_among rows) (values_in pairs) names
    (values_agree shape command.options pairs names b.options are)

-- where it doesn't
where_it_refuses : (command : Command) (shape : Shape) (pairs : Pairs) (name : Text)
    (names : List Text) → IsBuilt command shape
    → level_fault shape [] nothing_held (words_of pairs (name ∷ names)) false []
    ≡ kind.UnknownArgument ∷ []
    → clap_request (command.name ∷ words_of pairs (name ∷ names)) ≡ None
where_it_refuses command shape pairs name names b fault =
    let words : List Text = words_of pairs (name ∷ names) in
    ap (λ (k : Kinds). where_taken k
    (option_and_then asked_by (subcommand_of words_app (command.name ∷ words))))
    (fault_is (built words_app) command.name shape words b.enters ∙ fault)

of_parts : (command : Command) (shape : Shape) (pairs : Pairs) (names : List Text)
    → IsBuilt command shape → AreOptions shape pairs → AreFresh [] pairs → ArePlain names
    → length names ≤ usize_max
    → clap_request (command.name ∷ words_of pairs names) ≡ command.asked (values_in pairs) names
of_parts command shape pairs [] b are fresh plain few =
    where_it_takes command shape pairs [] b are
    (subst (IsTaken shape (words_of pairs [])) (sym (append-nil (rows_of pairs)))
    (pairs_taken shape pairs b.level are fresh))
of_parts command shape pairs (name ∷ names) b are fresh plain few = elim b.treats_names [
  | inl takes ↦ where_it_takes command shape pairs (name ∷ names) b are
      (names_taken shape pairs name names b.level takes are fresh plain few)
  | inr none ↦ where_it_refuses command shape pairs name names b
      (stray_refused shape pairs name names b.level none.0 are fresh plain.0)
      ∙ sym (none.1 (values_in pairs) name names)
]

behind_name : (command : Command) (shape : Shape) (words : List Text) (parts : Parts)
    → IsBuilt command shape → Splits words parts → are_allowed command.options parts.0 ≡ true
    → length words ≤ usize_max
    → clap_request (command.name ∷ words) ≡ command.asked (values_in parts.0) parts.1
behind_name command shape words parts b s allowed few =
    let both = and_parts (are_once parts.0) (list_all (is_option_allowed command.options) parts.0)
    allowed in
    let are = options_are shape command.options parts.0 b.options both.1 s.values in
    let short : length parts.1 ≤ usize_max =
    omega (arith, few_names parts.0 parts.1, ap length s.words_are) in
    ap (λ (ws : List Text). clap_request (command.name ∷ ws)) s.words_are
    ∙ of_parts command shape parts.0 parts.1 b are (are_fresh shape parts.0 are both.0) s.names
    short

-- ---- all words

-- the command of a name, as clap builds it
record HasBuilt (name : Text) (command : Command) : Type 0 where
  same_name : name ≡ command.name
  shape : Shape
  is_built : IsBuilt command shape

abbrev IsBuiltSomehow : Command → Type 0
IsBuiltSomehow command = (shape : Shape) × IsBuilt command shape

named_built : (name : Text) (command : Command) → command_named name ≡ Some command
    → HasBuilt name command
named_built name command e =
    let built = named_in IsBuiltSomehow name commands command (
      (shape_at 0, run_is_built),
      (
        (shape_at 1, replay_is_built),
        (
          (shape_at 2, inspect_is_built),
          (
            (shape_at 3, gen_is_built),
            (
              (shape_at 4, migrate_is_built),
              (
                (shape_at 5, trace_is_built),
                (
                  (shape_at 6, save_is_built),
                  ((shape_at 7, resume_is_built), ((shape_at 8, debug_is_built), tt)),
                ),
              ),
            ),
          ),
        ),
      ),
    ) e in
    record {
      same_name = same_text name command.name built.1;
      shape = built.0.0;
      is_built = built.0.1;
    }

-- Canonical words ask for the same by clap.
canonical_agrees : (words : List Text) (asked : Option Request) → length words ≤ usize_max
    → canonical words ≡ Some asked → clap_request words ≡ asked
canonical_agrees [] asked few e = absurd cc
canonical_agrees (name ∷ words) asked few e =
    let command = bind_some (command_named name) _ asked e in
    let parts = bind_some (pairs_and_names words) _ asked command.2 in
    let allowed = guard_some (are_allowed command.0.options parts.0.0)
    (command.0.asked (values_in parts.0.0) parts.0.1) asked parts.2 in
    let b = named_built name command.0 command.1 in
    ap (λ (n : Text). clap_request (n ∷ words)) b.same_name
    ∙ behind_name command.0 b.shape words parts.0 b.is_built (splits words parts.0 parts.1)
    allowed.0 (omega (arith, few))
    ∙ allowed.1

-- What the words ask for is what clap takes.
pub request_is : (words : List Text) → length words ≤ usize_max
    → request words ≡ clap_request words
request_is words few = go (canonical words) refl
  where
    go : (c : Option (Option Request)) → canonical words ≡ c
        → request_by c words ≡ clap_request words
    go None e = refl
    go (Some asked) e = sym (canonical_agrees words asked few e)
