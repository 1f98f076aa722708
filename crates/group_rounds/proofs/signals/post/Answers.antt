use Rattle.kernel_calls.proofs.ProcessEnds.{first-lives}
use Rattle.group_rounds.proofs.signals.post.Goals as goal

pub post-requires-clause-live : goal.post-requires-clause-live
post-requires-clause-live c =
    first-lives c.args.table.now.threads c.args.pid c.in-Some.tid c.in-Some.ensures
