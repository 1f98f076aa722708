use Rattle.dos_words.specs.Commands.{inspect}
use Rattle.dos_words.specs.Clap.{command_shape}
use Rattle.dos_words.proofs.command.files_command.Goals as goal

pub returns : goal.returns
returns c = c.with_command.ensures _ (command_shape inspect) c.runs_command.ensures
    c.inspect_command.ensures.shape c.inspect_command.ensures.local
