use Rattle.std.proofs.Common.{◌∙◌, sym, arith}
use Rattle.group_rounds.proofs.Starters.{gathered_none, gathered_next, gathered_all, fewer_left}
use Rattle.group_rounds.proofs.Starters.{room_left, next_lives, ready_numbers}
use Rattle.group_rounds.specs.Phases.{is_ready}
use Rattle.group_rounds.proofs.phases.gather.Goals as goal

pub loop-tid-init : goal.loop-tid-init
loop-tid-init c = record {
  gathered = gathered_none (is_ready c.args.table.now.threads) c.args.table.now.threads
      c.clear.new.self.items c.clear.ensures.items
      c.requires.few;
  room = let kept = c.clear.ensures.capacity in let room = c.requires.room in
      omega (arith, kept, room);
}

pub add_if_ready-requires-clause-live : goal.add_if_ready-requires-clause-live
add_if_ready-requires-clause-live c =
    next_lives c.args.table.now.threads c.loop-tid.last c.in-Some.tid
    (sym c.next_thread.ensures ∙ c.in-Some.is)

pub add_if_ready-requires-clause-room : goal.add_if_ready-requires-clause-room
add_if_ready-requires-clause-room c =
    let left = room_left (is_ready c.args.table.now.threads) c.args.table.now.threads
    c.loop-tid.starters.items c.loop-tid.last
    c.in-Some.tid (sym c.next_thread.ensures ∙ c.in-Some.is) c.loop-tid.invariant.gathered
    in
    let room = c.loop-tid.invariant.room in
    omega (arith, left, room)

pub loop-tid-smaller : goal.loop-tid-smaller
loop-tid-smaller c = fewer_left c.args.table.now.threads c.loop-tid.last c.in-Some.tid
    (sym c.next_thread.ensures ∙ c.in-Some.is)

pub loop-tid-preserved : goal.loop-tid-preserved
loop-tid-preserved c = record {
  gathered = gathered_next (is_ready c.args.table.now.threads) c.args.table.now.threads
      c.loop-tid.starters.items
      c.add_if_ready.new.starters.items c.loop-tid.last c.in-Some.tid
      (sym c.next_thread.ensures ∙ c.in-Some.is) c.add_if_ready.ensures.items
      c.loop-tid.invariant.gathered;
  room = let kept = c.add_if_ready.ensures.room in let room = c.loop-tid.invariant.room in
      omega (arith, kept, room);
}

pub returns-clause-ready : goal.returns-clause-ready
returns-clause-ready c = gathered_all (is_ready c.args.table.now.threads) c.args.table.now.threads
    c.loop-tid.starters.items c.loop-tid.last (sym c.next_thread.ensures ∙ c.in_default.is)
    c.loop-tid.invariant.gathered ∙ ready_numbers c.args.table.now.threads

pub returns-clause-few : goal.returns-clause-few
returns-clause-few c = let few = c.loop-tid.invariant.gathered.few in omega (arith, few)
