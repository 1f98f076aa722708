use Rattle.std.proofs.Common.{◌≡◌, ◌≤◌, List, All, length, arith, ap, sym, subst, ◌∙◌}
use Rattle.dos_world.specs.World.{World}
use Rattle.debug_session.specs.Sessions.{Session}
use Rattle.debug_session.specs.declared.points.Watchpoint.{Watchpoint}
use Rattle.debug_hits.specs.Kept.{FitsPage}
use Rattle.debugger.specs.Quiet.{AreWatchedIn, frames_watched}
use Rattle.debugger.specs.Standing.{SessionView, here}
use Rattle.debugger.proofs.Unhit.{frames_more, watched_in}
use Rattle.debugger.proofs.session.Session.watched_frames.Goals as goal

pub loop-index-preserved : goal.loop-index-preserved
loop-index-preserved c start is_start =
    let w : World = (here c.args.self.now start).moment.world in
    frames_more (frames_watched w) c.args.self.now.client.watchpoints c.loop-index.index
    c.point_at-point.result c.loop-index.frames.items c.keep_frames.new.frames.items
    c.point_at-point.ensures (c.loop-index.invariant start is_start)
    (c.in_ok-keep_frames.ensures start is_start)

pub returns : goal.returns
returns c start s is_start asked =
    let w : World = (here c.args.self.now start).moment.world in
    let points : List Watchpoint = c.args.self.now.client.watchpoints in
    let there : c.watchpoints-points.result.now ≡ points =
    c.watchpoints-points.ensures
    ∙ ap (λ (a : SessionView). a.client.watchpoints) c.self.view_is in
    let fit : All FitsPage points =
    subst (All FitsPage) there (c.are_short.ensures c.if-not-are_short.false) in
    let many = ap (λ (l : List Watchpoint). length l) there in
    let long : length points ≤ c.loop-index.index =
    omega (arith, many, c.loop-index-test.false) in
    subst (λ (u : Session). AreWatchedIn w c.loop-index.frames.items u.watchpoints)
    (sym asked.is)
    (watched_in w points c.loop-index.index c.loop-index.frames.items fit long
    (c.loop-index.invariant start is_start))
