use Rattle.std.proofs.Common.{◌≡◌, List, length, Bool, Some, arith, ap, sym, ◌∙◌}
use Rattle.std.specs.Prelude.{◌&&◌, slice_get}
use Rattle.std.proofs.lemmas.List.{length_push}
use Rattle.dos_world.specs.World.{World}
use Rattle.debug_session.specs.Sessions.{Session, is_belonging, is_process_live}
use Rattle.debug_session.specs.declared.points.Watchpoint.{Watchpoint}
use Rattle.debugger.specs.Standing.{SessionView, here}
use Rattle.debugger.proofs.Watching.{mapped_all, mapped_at, mapped_more}
use Rattle.debugger.proofs.session.Session.still_watching.Goals as goal

pub loop-index-preserved : goal.loop-index-preserved
loop-index-preserved c =
    let have = c.loop-index.watching.items in
    let i = c.loop-index.index in
    let count = c.loop-index.invariant.0 in
    let more = ap (λ (l : List Bool). length l) c.in_ok-push.ensures.items in
    let long = length_push have c.is_still_watching.result in (
      omega (arith, count, more, long),
      λ start s rs w is_start asked seen.
          let now : World = (here c.args.self.now start).moment.world in
          let point = c.point_at-point.result in
          let there : slice_get s.watchpoints i ≡ Some point =
          ap (λ (u : Session). slice_get u.watchpoints i) asked.is ∙ c.point_at-point.ensures in
          let was = mapped_at (λ (p : Watchpoint). is_belonging s rs w p.process
          && is_process_live w p.process) s.watchpoints i point c.args.before.now.watching.items
          c.index-was_watching.result.now there seen.watching c.index-was_watching.ensures in
          c.in_ok-push.ensures.items
          ∙ mapped_more (λ (p : Watchpoint). (is_belonging s rs w p.process
          && is_process_live w p.process) && is_process_live now p.process) s.watchpoints i point
          have c.is_still_watching.result there
          (c.loop-index.invariant.1 start s rs w is_start asked seen)
          (c.is_still_watching.ensures start is_start
          ∙ ap (λ (b : Bool). b && is_process_live now point.process) was),
    )

pub returns-clause-watching : goal.returns-clause-watching
returns-clause-watching c start s rs w is_start asked seen =
    let now : World = (here c.args.self.now start).moment.world in
    let same = ap (λ (u : Session). length u.watchpoints) asked.is in
    mapped_all (λ (p : Watchpoint). (is_belonging s rs w p.process
    && is_process_live w p.process) && is_process_live now p.process) s.watchpoints
    c.loop-index.index c.loop-index.watching.items
    (omega (arith, same, c.requires.count, c.len-index-end.ensures, c.loop-index-test.false))
    (c.loop-index.invariant.1 start s rs w is_start asked seen)
