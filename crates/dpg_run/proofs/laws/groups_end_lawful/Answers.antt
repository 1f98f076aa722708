use Rattle.dpg_run.proofs.LawfulRuns.{group_ends_lawful}
use Rattle.dpg_run.proofs.laws.groups_end_lawful.Goals as goal

pub returns : goal.returns
returns c = group_ends_lawful
