-- A command that was made of the program's own.
use Rattle.std.proofs.Common.{◌≡◌, ◌∙◌, ap, ap₂, subst, fold, Ok, Err, Result, IfOk}
use Rattle.std.proofs.Common.{Bool, false, ◌||◌}
use Rattle.clap.specs.Words.{App, AddsArg, app_of, shape_of, rule_of, with_rule, new_app}
use Rattle.clap.specs.declared.builder.arg.Arg.{Arg}
use Rattle.clap.specs.declared.builder.command.Command.{Command as Made}
use Rattle.clap.specs.declared.builder.command.Command.TheViews.{out-Command as fields_of}
use Rattle.std.specs.declared.alloc.AllocError.{AllocError}
use Rattle.dos_words.specs.Commands.{Command}
use Rattle.dos_words.specs.Clap.{rules_of, command_shape}

-- with its rules it has its shape
pub shape_made : (made : Result Made AllocError) (bare : App) (command : Command)
    → bare ≡ new_app command.name
    → IfOk made (λ c. app_of c ≡ fold with_rule bare (rules_of command))
    → IfOk made (λ c. shape_of c ≡ command_shape command)
shape_made (Ok c) bare command is has =
    ap (λ (a : App). a.top) has
    ∙ ap (λ (a : App). (fold with_rule a (rules_of command)).top) is
shape_made (Err e) bare command is has = tt

-- with one rule more, where there was a command
pub rule_added : (command : Result Made AllocError) (old : Made) (argument : Arg)
    (more : Result Made AllocError) (app : App) → command ≡ Ok old → argument.global ≡ false
    → IfOk more (AddsArg old argument) → IfOk command (λ c. app_of c ≡ app)
    → IfOk more (λ c. app_of c ≡ with_rule app (rule_of argument))
rule_added command old argument (Err e) app is plain adds was = tt
rule_added command old argument (Ok new) app is plain adds was =
    adds.shape plain ∙ ap (λ (a : App). with_rule a (rule_of argument))
    (subst (λ (c : Result Made AllocError). IfOk c (λ c. app_of c ≡ app)) is was)

pub still_local : (command : Result Made AllocError) (old : Made) (argument : Arg)
    (more : Result Made AllocError) → command ≡ Ok old → argument.global ≡ false
    → IfOk more (AddsArg old argument) → IfOk command (λ c. (fields_of c).has_globals ≡ false)
    → IfOk more (λ c. (fields_of c).has_globals ≡ false)
still_local command old argument (Err e) is plain adds was = tt
still_local command old argument (Ok new) is plain adds was =
    adds.globals ∙ ap₂ (λ (a b : Bool). a || b)
    (subst (λ (c : Result Made AllocError). IfOk c (λ c. (fields_of c).has_globals ≡ false)) is
    was) plain
