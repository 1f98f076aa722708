use Rattle.std.proofs.Common.{length}
use Rattle.group_walk.proofs.turns.+step_on_keeping.Given as goal

abbrev pub decreases-step_on_keeping : goal.decreases-step_on_keeping
decreases-step_on_keeping l = length l.kept.now
