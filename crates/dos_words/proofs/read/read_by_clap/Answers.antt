use Rattle.dos_words.proofs.read.read_by_clap.Goals as goal

pub returns : goal.returns
returns c = c.read_taken.ensures c.in_ok-command.ensures
