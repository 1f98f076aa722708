use Rattle.dos_words.specs.Commands.{replay}
use Rattle.dos_words.proofs.Shapes.{shape_made}
use Rattle.dos_words.proofs.command.replay_command.Goals as goal

pub returns-clause-shape : goal.returns-clause-shape
returns-clause-shape c = shape_made _ _ replay c.new.ensures.app
    (c.with_names.ensures.app _ c.with_options-command.ensures.app)
