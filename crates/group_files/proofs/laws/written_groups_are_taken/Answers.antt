use Rattle.group_files.proofs.Lengths.{written_is_taken}
use Rattle.group_files.proofs.laws.written_groups_are_taken.Goals as goal

pub returns : goal.returns
returns c = written_is_taken
