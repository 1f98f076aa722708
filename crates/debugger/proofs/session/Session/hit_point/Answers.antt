use Rattle.std.proofs.Common.{◌≡◌, Bool, length, map, ap, sym, subst, ◌∙◌}
use Rattle.std.specs.Prelude.{◌&&◌}
use Rattle.dos_world.specs.World.{World}
use Rattle.group_walk.specs.Walks.{kind_named}
use Rattle.kernel_calls.specs.StateWorld.{sent, world_of}
use Rattle.debug_session.specs.Hits.{hit_by}
use Rattle.debug_session.specs.Sessions.{is_belonging, is_process_live}
use Rattle.debug_session.specs.declared.points.Watchpoint.{Watchpoint}
use Rattle.debug_hits.specs.Kept.{HasLooked}
use Rattle.debugger.specs.Standing.{SessionView, here}
use Rattle.debugger.proofs.Seen.{of_state, ready_inside}
use Rattle.debugger.proofs.session.Session.hit_point.Goals as goal

pub first_hit-requires-clause-sound : goal.first_hit-requires-clause-sound
first_hit-requires-clause-sound c =
    (c.state.ensures.sound
    (ready_inside _ _ c.self.view_is c.self.invariant c.requires.running).running).sound

pub first_hit-requires-clause-each : goal.first_hit-requires-clause-each
first_hit-requires-clause-each c =
    ap length c.deref.ensures.value ∙ c.in_ok-watching.ensures.count ∙ c.requires.looked
    ∙ ap (λ (a : SessionView). length a.watched) (sym c.self.view_is)

pub returns : goal.returns
returns c start s rs w is_start asked seen looked =
    let kind = kind_named c.args.before.now.kind in
    let test : World → Watchpoint → Bool = λ v point. (is_belonging s rs w point.process
    && is_process_live w point.process) && is_process_live v point.process in
    let kept = subst (HasLooked w kind s.watchpoints)
    (ap (λ (a : SessionView). a.watched) (sym c.self.view_is)) looked in
    of_state _ _ c.self.view_is c.self.invariant c.requires.running c.state.result.now
    c.state.ensures.state start is_start
    (λ (v : World). c.deref.result.now ≡ map (test v) s.watchpoints
    → c.first_hit.result ≡ hit_by s rs w kind v)
    (λ q o e same. sym (c.first_hit.ensures w kind s.watchpoints q o e
    (test (sent o e (world_of q c.state.result.now))) kept same))
    (c.deref.ensures.value
    ∙ c.in_ok-watching.ensures.watching start s rs w is_start asked seen)
