use Rattle.dos_words.specs.Commands.{save_command}
use Rattle.dos_words.proofs.Shapes.{shape_made}
use Rattle.dos_words.proofs.command.save_command.Goals as goal

pub returns-clause-shape : goal.returns-clause-shape
returns-clause-shape c = shape_made _ _ save_command c.new.ensures.app
    (c.with_names.ensures.app _ c.with_options-command.ensures.app)
