use Rattle.dos_words.specs.Commands.{migrate}
use Rattle.dos_words.specs.Clap.{command_shape}
use Rattle.dos_words.proofs.command.logs_command.Goals as goal

pub returns : goal.returns
returns c = c.with_command.ensures _ (command_shape migrate) c.images_command.ensures
    c.migrate_command.ensures.shape c.migrate_command.ensures.local
