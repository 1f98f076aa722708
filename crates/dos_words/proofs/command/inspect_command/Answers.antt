use Rattle.std.proofs.Common.{refl}
use Rattle.dos_words.specs.Commands.{inspect}
use Rattle.dos_words.proofs.Shapes.{shape_made}
use Rattle.dos_words.proofs.command.inspect_command.Goals as goal

pub returns-clause-shape : goal.returns-clause-shape
returns-clause-shape c = shape_made _ _ inspect c.new.ensures.app (c.with_names.ensures.app _ refl)
