use Rattle.std.proofs.Common.{◌≡◌, ℕ, List, [], length, ap, sym, subst, ◌∙◌}
use Rattle.std.proofs.lemmas.List.{length-map}
use Rattle.dos_world.specs.World.{World}
use Rattle.group_walk.specs.Walks.{kind_named}
use Rattle.kernel_calls.specs.StateWorld.{sent, world_of}
use Rattle.debug_session.specs.declared.points.Watchpoint.{Watchpoint}
use Rattle.debug_hits.specs.Kept.{HasLooked, kept_of}
use Rattle.debugger.specs.Standing.{SessionView}
use Rattle.debugger.proofs.Seen.{of_state, ready_inside}
use Rattle.debugger.proofs.Staying.{ok_each, ok_map, ready_watched}
use Rattle.debugger.proofs.session.Session.watch.Goals as goal

pub look-requires-clause-sound : goal.look-requires-clause-sound
look-requires-clause-sound c =
    (c.state.ensures.sound
    (ready_inside _ _ c.self.view_is c.self.invariant c.requires).running).sound

pub look-requires-clause-short : goal.look-requires-clause-short
look-requires-clause-short c = c.are_short.ensures c.if-not-are_short.false

pub returns-clause-looked : goal.returns-clause-looked
returns-clause-looked c =
    let kind = kind_named c.args.kind in
    let points = c.watchpoints-points.result.now in
    let there : points ≡ c.args.self.now.client.watchpoints =
    c.watchpoints-points.ensures
    ∙ ap (λ (a : SessionView). a.client.watchpoints) c.self.view_is in
    ok_each c.look.result
    (λ q o e. HasLooked (sent o e (world_of q c.state.result.now)) kind points
    c.look.new.self)
    (λ each start is_start.
    of_state _ _ c.self.view_is c.self.invariant c.requires c.state.result.now
    c.state.ensures.state start is_start
    (λ (w : World). HasLooked w kind c.args.self.now.client.watchpoints c.look.new.self)
    (λ q o e. subst (λ (ps : List Watchpoint).
    HasLooked (sent o e (world_of q c.state.result.now)) kind ps c.look.new.self)
    there (each q o e)))
    (λ q o e. c.look.ensures q o e)

pub returns-clause-count : goal.returns-clause-count
returns-clause-count c =
    let kind = kind_named c.args.kind in
    let points = c.watchpoints-points.result.now in
    let w : World = sent [] [] (world_of 0 c.state.result.now) in
    ok_map c.look.result
    (λ (has : HasLooked w kind points c.look.new.self).
    ap length has.each ∙ length-map points (kept_of w kind)
    ∙ ap (λ (ps : List Watchpoint). length ps) c.watchpoints-points.ensures
    ∙ ap (λ (a : SessionView). length a.client.watchpoints) c.self.view_is)
    (c.look.ensures 0 [] [])
