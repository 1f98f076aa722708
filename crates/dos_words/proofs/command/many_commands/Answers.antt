use Rattle.dos_words.specs.Commands.{save_command}
use Rattle.dos_words.specs.Clap.{command_shape}
use Rattle.dos_words.proofs.command.many_commands.Goals as goal

pub returns : goal.returns
returns c = c.with_command.ensures _ (command_shape save_command) c.first_commands.ensures
    c.save_command.ensures.shape c.save_command.ensures.local
