use Rattle.std.proofs.Common.{[], ◌∙◌, sym, subst, arith}
use Rattle.kernel_calls.specs.StateWorld.{sent, world_of}
use Rattle.group_rounds.specs.Phases.{AreLive, is_ripe}
use Rattle.group_rounds.proofs.Sound.{few_live}
use Rattle.group_rounds.proofs.Starters.{gathered_none, gathered_next, gathered_all, fewer_left}
use Rattle.group_rounds.proofs.Starters.{room_left, next_lives, ripe_numbers, found_live}
use Rattle.group_rounds.proofs.ripening.gather_ripe.Goals as goal

pub loop-tid-init : goal.loop-tid-init
loop-tid-init c = record {
  gathered = λ q o e.
      gathered_none (is_ripe (sent o e (world_of q c.args.state.now)))
      c.args.state.now.table.threads c.clear.new.self.items c.clear.ensures.items
      (few_live c.args.state.now c.requires.sound);
  room = let kept = c.clear.ensures.capacity in let room = c.requires.room in
      omega (arith, kept, room);
}

pub add_if_ripe-requires-clause-live : goal.add_if_ripe-requires-clause-live
add_if_ripe-requires-clause-live c =
    next_lives c.args.state.now.table.threads c.loop-tid.last c.in-Some.tid
    (sym c.next_thread.ensures ∙ c.in-Some.is)

pub add_if_ripe-requires-clause-room : goal.add_if_ripe-requires-clause-room
add_if_ripe-requires-clause-room c =
    let left = room_left (is_ripe (world_of 0 c.args.state.now)) c.args.state.now.table.threads
    c.loop-tid.found.items c.loop-tid.last c.in-Some.tid
    (sym c.next_thread.ensures ∙ c.in-Some.is) (c.loop-tid.invariant.gathered 0 [] []) in
    let room = c.loop-tid.invariant.room in
    omega (arith, left, room)

pub loop-tid-smaller : goal.loop-tid-smaller
loop-tid-smaller c = fewer_left c.args.state.now.table.threads c.loop-tid.last c.in-Some.tid
    (sym c.next_thread.ensures ∙ c.in-Some.is)

pub loop-tid-preserved : goal.loop-tid-preserved
loop-tid-preserved c = record {
  gathered = λ q o e.
      gathered_next (is_ripe (sent o e (world_of q c.args.state.now)))
      c.args.state.now.table.threads c.loop-tid.found.items c.add_if_ripe.new.found.items
      c.loop-tid.last c.in-Some.tid (sym c.next_thread.ensures ∙ c.in-Some.is)
      (c.add_if_ripe.ensures.items q o e) (c.loop-tid.invariant.gathered q o e);
  room = let kept = c.add_if_ripe.ensures.room in let room = c.loop-tid.invariant.room in
      omega (arith, kept, room);
}

pub returns-clause-ripe : goal.returns-clause-ripe
returns-clause-ripe c = λ q o e.
    gathered_all (is_ripe (sent o e (world_of q c.args.state.now)))
    c.args.state.now.table.threads c.loop-tid.found.items c.loop-tid.last
    (sym c.next_thread.ensures ∙ c.in_default.is) (c.loop-tid.invariant.gathered q o e)
    ∙ ripe_numbers (sent o e (world_of q c.args.state.now))

pub returns-clause-live : goal.returns-clause-live
returns-clause-live c =
    subst (AreLive c.args.state.now.table.threads)
    (sym (gathered_all (is_ripe (world_of 0 c.args.state.now))
    c.args.state.now.table.threads c.loop-tid.found.items c.loop-tid.last
    (sym c.next_thread.ensures ∙ c.in_default.is) (c.loop-tid.invariant.gathered 0 [] [])))
    (found_live c.args.state.now.table.threads (is_ripe (world_of 0 c.args.state.now)))
