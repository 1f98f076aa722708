use Rattle.std.proofs.Common.{◌≡◌, List, length, Bool, Some, arith, ap, sym, ◌∙◌}
use Rattle.std.specs.Prelude.{◌&&◌, slice_get}
use Rattle.std.proofs.lemmas.List.{length_push}
use Rattle.dos_world.specs.World.{World}
use Rattle.debug_session.specs.Sessions.{Session, is_belonging, is_process_live}
use Rattle.debug_session.specs.declared.points.Watchpoint.{Watchpoint}
use Rattle.debugger.specs.Standing.{SessionView, here}
use Rattle.debugger.proofs.Watching.{mapped_all, mapped_more}
use Rattle.debugger.proofs.session.Session.watching.Goals as goal

pub loop-index-preserved : goal.loop-index-preserved
loop-index-preserved c =
    let have = c.loop-index.watching.items in
    let i = c.loop-index.index in
    let count = c.loop-index.invariant.0 in
    let more = ap (λ (l : List Bool). length l) c.in_ok-push.ensures.items in
    let long = length_push have c.is_watching.result in (
      omega (arith, count, more, long),
      λ start s is_start asked.
          let w : World = (here c.args.self.now start).moment.world in
          let there : slice_get s.watchpoints i ≡ Some c.point_at-point.result =
          ap (λ (u : Session). slice_get u.watchpoints i) asked.is ∙ c.point_at-point.ensures in
          c.in_ok-push.ensures.items
          ∙ mapped_more (λ (point : Watchpoint). is_belonging s c.args.resumptions.now w
          point.process
          && is_process_live w point.process) s.watchpoints i c.point_at-point.result have
          c.is_watching.result there (c.loop-index.invariant.1 start s is_start asked)
          (c.is_watching.ensures start s is_start asked),
    )

pub returns-clause-watching : goal.returns-clause-watching
returns-clause-watching c start s is_start asked =
    let w : World = (here c.args.self.now start).moment.world in
    let all : c.watchpoints-index-end.result.now ≡ s.watchpoints =
    c.watchpoints-index-end.ensures
    ∙ ap (λ (a : SessionView). a.client.watchpoints) c.self.view_is
    ∙ sym (ap (λ (u : Session). u.watchpoints) asked.is) in
    let long = ap (λ (l : List Watchpoint). length l) all in
    mapped_all (λ (point : Watchpoint). is_belonging s c.args.resumptions.now w point.process
    && is_process_live w point.process) s.watchpoints c.loop-index.index
    c.loop-index.watching.items (omega (arith, long, c.loop-index-test.false))
    (c.loop-index.invariant.1 start s is_start asked)
