use Rattle.group_moves.proofs.Runs.{history_folds}
use Rattle.group_moves.proofs.laws.histories_fold_to_the_machine.Goals as goal

pub returns : goal.returns
returns c = history_folds
