use Rattle.dos_words.specs.Commands.{trace_command}
use Rattle.dos_words.specs.Clap.{command_shape}
use Rattle.dos_words.proofs.command.first_commands.Goals as goal

pub returns : goal.returns
returns c = c.with_command.ensures _ (command_shape trace_command) c.logs_command.ensures
    c.traces_command.ensures.shape c.traces_command.ensures.local
