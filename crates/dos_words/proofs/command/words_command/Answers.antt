use Rattle.dos_words.specs.Commands.{debug_command}
use Rattle.dos_words.specs.Clap.{command_shape}
use Rattle.dos_words.proofs.command.words_command.Goals as goal

pub returns : goal.returns
returns c = c.with_command.ensures _ (command_shape debug_command) c.most_commands.ensures
    c.debugs_command.ensures.shape c.debugs_command.ensures.local
