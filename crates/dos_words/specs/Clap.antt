-- What `clap`'s definition of a simple command takes, with the commands as its subcommands: each
-- option sets one value, and the names are one positional argument of one or more values. Help and
-- version are no words of it.
use Rattle.std.specs.Prelude.{true, List, [], ◌∷◌, ◌++◌, map, fold, Option, Some, None, unwrap_or}
use Rattle.std.specs.Prelude.{codes, if◌then◌else◌}
use Rattle.clap.specs.Words.{App, Rule, Row, Shape, new_app, new_rule, with_rule, with_subcommand}
use Rattle.clap.specs.Words.{all_of, first_of, fault_of, subcommand_of}
use Rattle.clap.specs.Kinds.{Kinds}
use Rattle.clap.specs.Lexer.{usize_max}
use Rattle.clap.specs.declared.builder.action.ArgAction.TheVariants.{Set}
use Rattle.clap.specs.declared.builder.range.ValueRange.{ValueRange}
use Rattle.dos_words.specs.declared.request.Request.{Request}
use Rattle.dos_words.specs.Numbers.{Text, ◌>>=◌}
use Rattle.dos_words.specs.Asked.{Values}
use Rattle.dos_words.specs.Commands.{Command, commands, command_named}

-- ---- the commands as clap sees them

-- `Arg::new(name).long(name).action(ArgAction::Set)`
abbrev pub option_rule : Text → Rule
option_rule name = record (new_rule name) { long = Some name; action = Some Set }

-- `Arg::new("names").action(ArgAction::Set).num_args(1..)`
abbrev pub names_rule : Rule
names_rule =
    let some : ValueRange = record { start_inclusive = 1; end_inclusive = usize_max } in
    record (new_rule (codes "names")) { action = Some Set; range = Some some }

-- the options, and the names behind them
abbrev pub rules_of : Command → List Rule
rules_of command =
    map option_rule command.options ++ (if command.has_names then names_rule ∷ [] else [])

-- `Command::new(name)` with these arguments, as a subcommand
abbrev pub command_shape : Command → Shape
command_shape command = (fold with_rule (new_app command.name) (rules_of command)).top

-- the program's own command: its words are without its name, and ask for no help
abbrev pub bare_app : App
bare_app =
    let a : App = new_app (codes "dos") in
    let top : Shape = record a.top { no_binary_name = true; disable_help_flag = true } in
    record a { top = record top { disable_help_subcommand = true } }

-- the whole command, with its subcommands
abbrev pub words_app : App
words_app = fold with_subcommand bare_app (map command_shape commands)

-- ---- the values that it found, and what they ask for

-- the value that clap found for an option
abbrev pub values_among : List Row → Values
values_among rows name = first_of name rows

-- the names that it found
abbrev pub names_among : List Row → List Text
names_among rows = unwrap_or (all_of (codes "names") rows) []

-- what the subcommand asks for that clap entered
abbrev pub asked_by : Text × List Row → Option Request
asked_by found =
    command_named found.0 >>= λ command. command.asked (values_among found.1) (names_among found.1)

-- nothing where clap refuses the words
abbrev pub where_taken : Kinds → Option Request → Option Request
where_taken [] request = request
where_taken _ request = None

-- what clap takes
abbrev pub clap_request : List Text → Option Request
clap_request words =
    where_taken (fault_of words_app words) (subcommand_of words_app words >>= asked_by)
