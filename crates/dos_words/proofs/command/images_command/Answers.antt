use Rattle.dos_words.specs.Commands.{gen}
use Rattle.dos_words.specs.Clap.{command_shape}
use Rattle.dos_words.proofs.command.images_command.Goals as goal

pub returns : goal.returns
returns c = c.with_command.ensures _ (command_shape gen) c.files_command.ensures
    c.gen_command.ensures.shape c.gen_command.ensures.local
