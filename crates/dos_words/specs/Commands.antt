-- The commands of the program. This project's own.
use Rattle.std.specs.Prelude.{Bool, true, false, List, [], ◌∷◌, Option, find, codes, bytes_eq}
use Rattle.dos_words.specs.declared.request.Request.{Request}
use Rattle.dos_words.specs.Numbers.{Text}
use Rattle.dos_words.specs.Asked.{Values, run_asked, replay_asked, inspect_asked, gen_asked}
use Rattle.dos_words.specs.Asked.{debug_asked, migrate_asked, trace_asked, save_asked, resume_asked}

-- its name, its options without their dashes, whether names follow them, and what it asks for
pub record Command : Type 0 where
  pub name : Text
  pub options : List Text
  pub has_names : Bool
  pub asked : Values → List Text → Option Request

-- records a run
abbrev pub run : Command
run = record {
  name = codes "run";
  options =
      codes "quantum" ∷ codes "rounds" ∷ codes "frames" ∷ codes "workers" ∷ codes "scheme"
      ∷ codes "signals" ∷ codes "clock-from" ∷ codes "clock-step" ∷ codes "log" ∷ [];
  has_names = true;
  asked = run_asked;
}

-- runs by a log
abbrev pub replay : Command
replay = record {
  name = codes "replay";
  options = codes "workers" ∷ codes "scheme" ∷ codes "log" ∷ [];
  has_names = true;
  asked = replay_asked;
}

-- prints the parts of an image
abbrev pub inspect : Command
inspect = record { name = codes "inspect"; options = []; has_names = true; asked = inspect_asked }

-- runs the generated image
abbrev pub gen : Command
gen = record {
  name = codes "gen";
  options = codes "number" ∷ codes "threads" ∷ codes "workers" ∷ [];
  has_names = false;
  asked = gen_asked;
}

-- writes a log anew
abbrev pub migrate : Command
migrate = record {
  name = codes "migrate";
  options = codes "log" ∷ codes "to" ∷ [];
  has_names = false;
  asked = migrate_asked;
}

-- runs by a log, and prints which frames change their owners
abbrev pub trace_command : Command
trace_command = record {
  name = codes "trace";
  options = codes "workers" ∷ codes "log" ∷ [];
  has_names = true;
  asked = trace_asked;
}

-- runs by a log, and saves the group after a round
abbrev pub save_command : Command
save_command = record {
  name = codes "save";
  options = codes "workers" ∷ codes "log" ∷ codes "round" ∷ codes "to" ∷ [];
  has_names = true;
  asked = save_asked;
}

-- goes on with a saved group
abbrev pub resume_command : Command
resume_command = record {
  name = codes "resume";
  options = codes "workers" ∷ codes "log" ∷ codes "from" ∷ [];
  has_names = false;
  asked = resume_asked;
}

-- shows a run by a log to a debugger
abbrev pub debug_command : Command
debug_command = record {
  name = codes "debug";
  options = codes "workers" ∷ codes "log" ∷ [];
  has_names = true;
  asked = debug_asked;
}

-- all of them
abbrev pub commands : List Command
commands =
    run ∷ replay ∷ inspect ∷ gen ∷ migrate ∷ trace_command ∷ save_command ∷ resume_command
    ∷ debug_command ∷ []

-- the command of this name
abbrev pub command_named : Text → Option Command
command_named name = find (λ command. bytes_eq name command.name) commands
