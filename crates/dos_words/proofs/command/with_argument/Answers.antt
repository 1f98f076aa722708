use Rattle.dos_words.proofs.Shapes.{rule_added, still_local}
use Rattle.dos_words.proofs.command.with_argument.Goals as goal

pub returns-in-Ok-clause-app : goal.returns-in-Ok-clause-app
returns-in-Ok-clause-app c = λ app was. rule_added c.args.command c.in-Ok.command c.args.argument
    c.arg.result app c.in-Ok.is c.requires c.arg.ensures was

pub returns-in-Ok-clause-local : goal.returns-in-Ok-clause-local
returns-in-Ok-clause-local c = λ was. still_local c.args.command c.in-Ok.command c.args.argument
    c.arg.result c.in-Ok.is c.requires c.arg.ensures was
