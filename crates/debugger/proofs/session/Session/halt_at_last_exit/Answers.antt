use Rattle.std.proofs.Common.{ap, subst}
use Rattle.debug_session.specs.Positions.{Position, position_after}
use Rattle.recorded_walk.specs.Playbacks.{IsLastExit, IsStartOf, Played}
use Rattle.debugger.specs.Standing.{SessionView, here}
use Rattle.debugger.proofs.Exiting.{ends_at_exit}
use Rattle.debugger.proofs.session.Session.halt_at_last_exit.Goals as goal

pub returns-clause-halt : goal.returns-clause-halt
returns-clause-halt c rs start s b is_start asked passing noted =
    let exits = subst (λ (p : Played). (start : Position) → IsStartOf p start
    → IsLastExit (position_after p.moves start))
    (ap (λ (x : SessionView). x.playback) c.self.view_is)
    (c.is_last_exit.ensures c.if-not-is_last_exit.false) in
    ends_at_exit s rs start c.args.way.now (here c.args.self.now start) b c.at.result
    c.at.ensures c.if-not-way.false (exits start is_start) passing noted
