use Rattle.std.proofs.Common.{◌∙◌, sym, true, arith}
use Rattle.std.specs.Prelude.{is_some}
use Rattle.dos_world.specs.Numbered.{numbers_of}
use Rattle.group_rounds.proofs.Starters.{gathered_none, gathered_next, gathered_all, fewer_left}
use Rattle.group_rounds.proofs.Starters.{room_left, filter_every}
use Rattle.group_rounds.proofs.phases.gather_live.Goals as goal

pub loop-tid-init : goal.loop-tid-init
loop-tid-init c = record {
  gathered = gathered_none (λ t. true) c.args.table.now.threads c.clear.new.self.items
      c.clear.ensures.items
      c.requires.few;
  room = let kept = c.clear.ensures.capacity in let room = c.requires.room in
      omega (arith, kept, room);
}

pub add-requires : goal.add-requires
add-requires c =
    let left = room_left (λ t. true) c.args.table.now.threads c.loop-tid.found.items c.loop-tid.last
    c.in-Some.tid (sym c.next_thread.ensures ∙ c.in-Some.is) c.loop-tid.invariant.gathered
    in
    let room = c.loop-tid.invariant.room in
    omega (arith, left, room)

pub loop-tid-smaller : goal.loop-tid-smaller
loop-tid-smaller c = fewer_left c.args.table.now.threads c.loop-tid.last c.in-Some.tid
    (sym c.next_thread.ensures ∙ c.in-Some.is)

pub loop-tid-preserved : goal.loop-tid-preserved
loop-tid-preserved c = record {
  gathered = gathered_next (λ t. true) c.args.table.now.threads c.loop-tid.found.items
      c.add.new.found.items c.loop-tid.last c.in-Some.tid
      (sym c.next_thread.ensures ∙ c.in-Some.is) c.add.ensures.items
      c.loop-tid.invariant.gathered;
  room = let kept = c.add.ensures.room in let room = c.loop-tid.invariant.room in
      omega (arith, kept, room);
}

pub returns-clause-live : goal.returns-clause-live
returns-clause-live c = gathered_all (λ t. true) c.args.table.now.threads
    c.loop-tid.found.items c.loop-tid.last (sym c.next_thread.ensures ∙ c.in_default.is)
    c.loop-tid.invariant.gathered ∙ filter_every (numbers_of is_some c.args.table.now.threads)
