use Rattle.dos_words.specs.Commands.{debug_command}
use Rattle.dos_words.proofs.Shapes.{shape_made}
use Rattle.dos_words.proofs.command.debugs_command.Goals as goal

pub returns-clause-shape : goal.returns-clause-shape
returns-clause-shape c = shape_made _ _ debug_command c.new.ensures.app
    (c.with_names.ensures.app _ c.with_options-command.ensures.app)
