use Rattle.std.proofs.Common.{◌≡◌, Option, None, Some, ap, sym, ◌∙◌}
use Rattle.std.specs.Prelude.{option_map}
use Rattle.group_walk.specs.Walks.{kind_named}
use Rattle.debug_session.specs.Forwards.{halt_watched}
use Rattle.debug_session.specs.Positions.{position_after}
use Rattle.debug_session.specs.declared.points.Watchpoint.{Watchpoint}
use Rattle.debugger.specs.Standing.{here}
use Rattle.debugger.proofs.session.Session.halt_watched.Goals as goal

pub returns-in-None-clause-halt : goal.returns-in-None-clause-halt
returns-in-None-clause-halt c start s w is_start asked seen looked =
    ap (halt_watched s c.args.resumptions.now (kind_named c.args.before.now.kind)
    (here c.args.self.now start).moment.world (position_after c.args.first start)
    (position_after c.args.other start))
    (sym c.in-None.is
    ∙ c.in_ok-hit_point.ensures start s c.args.resumptions.now w is_start asked seen looked)

pub returns-in-Some-clause-halt : goal.returns-in-Some-clause-halt
returns-in-Some-clause-halt c start s w is_start asked seen looked =
    c.halt_by_point.ensures.halt start s is_start asked
    ∙ ap (halt_watched s c.args.resumptions.now (kind_named c.args.before.now.kind)
    (here c.args.self.now start).moment.world (position_after c.args.first start)
    (position_after c.args.other start))
    (sym c.in-Some.is
    ∙ c.in_ok-hit_point.ensures start s c.args.resumptions.now w is_start asked seen looked)
