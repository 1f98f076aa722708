use Rattle.std.proofs.Common.{sym, ◌∙◌}
use Rattle.group_walk.specs.Walks.{kind_named}
use Rattle.debugger.specs.Standing.{here}
use Rattle.debugger.proofs.Watching.{by_lowest, by_mover}
use Rattle.debugger.proofs.session.Session.halt_by_point.Goals as goal

pub returns-in-Some-clause-halt : goal.returns-in-Some-clause-halt
returns-in-Some-clause-halt c start s is_start asked =
    by_mover s c.args.resumptions.now (kind_named c.args.kind)
    (here c.args.self.now start).moment.world start c.args.point c.args.first c.args.other
    c.at.result c.in-Some.thread c.home_pair.result
    (c.in-Some.ensures.mover start s is_start asked)
    (c.home_pair.ensures start s is_start asked) c.at.ensures

pub returns-clause-halt : goal.returns-clause-halt
returns-clause-halt c start s is_start asked =
    by_lowest s c.args.resumptions.now (kind_named c.args.kind)
    (here c.args.self.now start).moment.world start c.args.point c.args.first c.args.other
    c.at-halt.result c.pair_of.result c.lowest_watcher-lowest.result
    (sym c.in_default.is ∙ c.watching_mover.ensures.mover start s is_start asked)
    (c.pair_of.ensures start s is_start asked)
    (c.lowest_watcher-lowest.ensures.lowest start s is_start asked) c.at-halt.ensures
