use Rattle.dos_words.specs.Commands.{resume_command}
use Rattle.dos_words.specs.Clap.{command_shape}
use Rattle.dos_words.proofs.command.most_commands.Goals as goal

pub returns : goal.returns
returns c = c.with_command.ensures _ (command_shape resume_command) c.many_commands.ensures
    c.resume_command.ensures.shape c.resume_command.ensures.local
