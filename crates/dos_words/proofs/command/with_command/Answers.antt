use Rattle.std.proofs.Common.{◌≡◌, Result, IfOk, subst}
use Rattle.clap.specs.Words.{app_of}
use Rattle.clap.specs.declared.builder.command.Command.{Command}
use Rattle.std.specs.declared.alloc.AllocError.{AllocError}
use Rattle.dos_words.proofs.command.with_command.Goals as goal

pub returns-in-Ok : goal.returns-in-Ok
returns-in-Ok c = λ app shape was. c.with_made.ensures app shape
    (subst (λ (w : Result Command AllocError). IfOk w (λ c. app_of c ≡ app)) c.in-Ok.is was)
