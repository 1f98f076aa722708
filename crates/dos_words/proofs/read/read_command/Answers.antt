use Rattle.std.proofs.Common.{◌≡◌, ◌∙◌, refl, sym, ap, subst, true, false, List, [], ◌∷◌, Option}
use Rattle.std.proofs.Common.{Some, Result, find}
use Rattle.std.specs.Prelude.{bytes_eq, option_and_then}
use Rattle.clap.specs.Words.{Row, rows_of, found_of}
use Rattle.dos_words.specs.declared.request.Request.{Request}
use Rattle.dos_words.specs.declared.error.WordsError.{WordsError}
use Rattle.dos_words.specs.Numbers.{Text}
use Rattle.dos_words.specs.Commands.{Command, command_named, run, replay, inspect, gen}
use Rattle.dos_words.specs.Commands.{debug_command, migrate, resume_command, save_command}
use Rattle.dos_words.specs.Commands.{trace_command}
use Rattle.dos_words.specs.Clap.{values_among, names_among, asked_by}
use Rattle.dos_words.specs.Reads.{Reads}
use Rattle.dos_words.proofs.read.read_command.Goals as goal

abbrev among : Text → List Command → Option Command
among name commands = find (λ command. bytes_eq name command.name) commands

first_named : (name : Text) (command : Command) (more : List Command)
    → bytes_eq name command.name ≡ true → among name (command ∷ more) ≡ Some command
first_named name command more is = rw is refl

later_named : (name : Text) (command : Command) (more : List Command)
    → bytes_eq name command.name ≡ false → among name (command ∷ more) ≡ among name more
later_named name command more is = rw is refl

-- those that come after a command
abbrev behind_save : List Command
behind_save = resume_command ∷ debug_command ∷ []

abbrev behind_trace : List Command
behind_trace = save_command ∷ behind_save

abbrev behind_migrate : List Command
behind_migrate = trace_command ∷ behind_trace

abbrev behind_gen : List Command
behind_gen = migrate ∷ behind_migrate

abbrev behind_inspect : List Command
behind_inspect = gen ∷ behind_gen

abbrev behind_replay : List Command
behind_replay = inspect ∷ behind_inspect

abbrev behind_run : List Command
behind_run = replay ∷ behind_replay

-- what the command asks for that was found
abbrev asked_of : List Row → Option Command → Option Request
asked_of rows found =
    option_and_then (λ (command : Command). command.asked (values_among rows) (names_among rows))
    found

-- what is read is what the command asks for that has the name
reads_named : (name : Text) (rows : List Row) (found : Option Command)
    (result : Result Request WordsError) → command_named name ≡ found
    → Reads result (asked_of rows found) → Reads result (asked_by (name, rows))
reads_named name rows found result is reads =
    subst (Reads result) (sym (ap (asked_of rows) is)) reads

pub returns-then-eq : goal.returns-then-eq
returns-then-eq c =
    let name : Text = c.args.name.now in
    reads_named name (rows_of (found_of c.args.matches.now)) (Some run) c.read_run.result
    (first_named name run behind_run (sym c.if-eq.ensures)) c.read_run.ensures

pub returns-then-eq-2 : goal.returns-then-eq-2
returns-then-eq-2 c =
    let name : Text = c.args.name.now in
    reads_named name (rows_of (found_of c.args.matches.now)) (Some replay) c.read_replay.result
    (later_named name run behind_run (sym c.if-eq.ensures)
    ∙ first_named name replay behind_replay (sym c.if-eq-2.ensures)) c.read_replay.ensures

pub returns-then-eq-3 : goal.returns-then-eq-3
returns-then-eq-3 c =
    let name : Text = c.args.name.now in
    reads_named name (rows_of (found_of c.args.matches.now)) (Some inspect) c.read_inspect.result
    (later_named name run behind_run (sym c.if-eq.ensures)
    ∙ later_named name replay behind_replay (sym c.if-eq-2.ensures)
    ∙ first_named name inspect behind_inspect (sym c.if-eq-3.ensures)) c.read_inspect.ensures

pub returns-then-eq-4 : goal.returns-then-eq-4
returns-then-eq-4 c =
    let name : Text = c.args.name.now in
    reads_named name (rows_of (found_of c.args.matches.now)) (Some gen) c.read_gen.result
    (later_named name run behind_run (sym c.if-eq.ensures)
    ∙ later_named name replay behind_replay (sym c.if-eq-2.ensures)
    ∙ later_named name inspect behind_inspect (sym c.if-eq-3.ensures)
    ∙ first_named name gen behind_gen (sym c.if-eq-4.ensures)) c.read_gen.ensures

pub returns-then-eq-5 : goal.returns-then-eq-5
returns-then-eq-5 c =
    let name : Text = c.args.name.now in
    reads_named name (rows_of (found_of c.args.matches.now)) (Some migrate) c.read_migrate.result
    (later_named name run behind_run (sym c.if-eq.ensures)
    ∙ later_named name replay behind_replay (sym c.if-eq-2.ensures)
    ∙ later_named name inspect behind_inspect (sym c.if-eq-3.ensures)
    ∙ later_named name gen behind_gen (sym c.if-eq-4.ensures)
    ∙ first_named name migrate behind_migrate (sym c.if-eq-5.ensures)) c.read_migrate.ensures

pub returns-then-eq-6 : goal.returns-then-eq-6
returns-then-eq-6 c =
    let name : Text = c.args.name.now in
    reads_named name (rows_of (found_of c.args.matches.now)) (Some trace_command)
    c.read_trace.result
    (later_named name run behind_run (sym c.if-eq.ensures)
    ∙ later_named name replay behind_replay (sym c.if-eq-2.ensures)
    ∙ later_named name inspect behind_inspect (sym c.if-eq-3.ensures)
    ∙ later_named name gen behind_gen (sym c.if-eq-4.ensures)
    ∙ later_named name migrate behind_migrate (sym c.if-eq-5.ensures)
    ∙ first_named name trace_command behind_trace (sym c.if-eq-6.ensures)) c.read_trace.ensures

pub returns-then-eq-7 : goal.returns-then-eq-7
returns-then-eq-7 c =
    let name : Text = c.args.name.now in
    reads_named name (rows_of (found_of c.args.matches.now)) (Some save_command)
    c.read_save.result
    (later_named name run behind_run (sym c.if-eq.ensures)
    ∙ later_named name replay behind_replay (sym c.if-eq-2.ensures)
    ∙ later_named name inspect behind_inspect (sym c.if-eq-3.ensures)
    ∙ later_named name gen behind_gen (sym c.if-eq-4.ensures)
    ∙ later_named name migrate behind_migrate (sym c.if-eq-5.ensures)
    ∙ later_named name trace_command behind_trace (sym c.if-eq-6.ensures)
    ∙ first_named name save_command behind_save (sym c.if-eq-7.ensures))
    c.read_save.ensures

pub returns-then-eq-8 : goal.returns-then-eq-8
returns-then-eq-8 c =
    let name : Text = c.args.name.now in
    reads_named name (rows_of (found_of c.args.matches.now)) (Some resume_command)
    c.read_resume.result
    (later_named name run behind_run (sym c.if-eq.ensures)
    ∙ later_named name replay behind_replay (sym c.if-eq-2.ensures)
    ∙ later_named name inspect behind_inspect (sym c.if-eq-3.ensures)
    ∙ later_named name gen behind_gen (sym c.if-eq-4.ensures)
    ∙ later_named name migrate behind_migrate (sym c.if-eq-5.ensures)
    ∙ later_named name trace_command behind_trace (sym c.if-eq-6.ensures)
    ∙ later_named name save_command behind_save (sym c.if-eq-7.ensures)
    ∙ first_named name resume_command (debug_command ∷ []) (sym c.if-eq-8.ensures))
    c.read_resume.ensures

pub returns-then-eq-9 : goal.returns-then-eq-9
returns-then-eq-9 c =
    let name : Text = c.args.name.now in
    reads_named name (rows_of (found_of c.args.matches.now)) (Some debug_command)
    c.read_debug.result
    (later_named name run behind_run (sym c.if-eq.ensures)
    ∙ later_named name replay behind_replay (sym c.if-eq-2.ensures)
    ∙ later_named name inspect behind_inspect (sym c.if-eq-3.ensures)
    ∙ later_named name gen behind_gen (sym c.if-eq-4.ensures)
    ∙ later_named name migrate behind_migrate (sym c.if-eq-5.ensures)
    ∙ later_named name trace_command behind_trace (sym c.if-eq-6.ensures)
    ∙ later_named name save_command behind_save (sym c.if-eq-7.ensures)
    ∙ later_named name resume_command (debug_command ∷ []) (sym c.if-eq-8.ensures)
    ∙ first_named name debug_command [] (sym c.if-eq-9.ensures)) c.read_debug.ensures

pub returns : goal.returns
returns c =
    let name : Text = c.args.name.now in
    let rows : List Row = rows_of (found_of c.args.matches.now) in
    ap (asked_of rows)
    (later_named name run behind_run (sym c.if-eq.ensures)
    ∙ later_named name replay behind_replay (sym c.if-eq-2.ensures)
    ∙ later_named name inspect behind_inspect (sym c.if-eq-3.ensures)
    ∙ later_named name gen behind_gen (sym c.if-eq-4.ensures)
    ∙ later_named name migrate behind_migrate (sym c.if-eq-5.ensures)
    ∙ later_named name trace_command behind_trace (sym c.if-eq-6.ensures)
    ∙ later_named name save_command behind_save (sym c.if-eq-7.ensures)
    ∙ later_named name resume_command (debug_command ∷ []) (sym c.if-eq-8.ensures)
    ∙ later_named name debug_command [] (sym c.if-eq-9.ensures))
