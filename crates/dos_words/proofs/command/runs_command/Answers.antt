use Rattle.dos_words.specs.Commands.{run, replay}
use Rattle.dos_words.specs.Clap.{command_shape}
use Rattle.dos_words.proofs.command.runs_command.Goals as goal

pub returns : goal.returns
returns c =
    let one = c.with_made-whole.ensures _ (command_shape run) c.bare_command.ensures
    c.run_command.ensures.shape c.run_command.ensures.local in
    c.with_command.ensures _ (command_shape replay) one
    c.replay_command.ensures.shape c.replay_command.ensures.local
