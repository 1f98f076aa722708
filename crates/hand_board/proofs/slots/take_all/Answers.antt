use Rattle.std.proofs.Common.{◌∙◌, subst, arith}
use lib.Seq.{take_all}
use Rattle.hand_board.specs.Seating.{AllFinished}
use Rattle.hand_board.proofs.Counts.{there}
use Rattle.hand_board.proofs.Values.{more_finished, more_empty}
use Rattle.hand_board.proofs.slots.take_all.Goals as goal

pub loop-i-preserved : goal.loop-i-preserved
loop-i-preserved g c =
    let inv = c.loop-i.invariant in
    let o = c.take.ensures.closed in
    let e = more_empty _ _ _ _ _ o.1 o.2 inv.0 inv.1 in
    let below = c.loop-i-test.true in
    let count = c.slot_count.ensures in
    let long = o.2 in
    let same = inv.3 in
    let a = inv.6 in
    let b = inv.7 in
    let d = inv.8 in
    let opened = c.requires.opened in
    let len = c.push_reserved.ensures.len in
    let cap = c.push_reserved.ensures.capacity in
    let xs = c.args.opened.now.value.opened in
    let t = there xs c.loop-i.i (omega arith) in (
      e.0,
      e.1,
      o.0 ∙ inv.2,
      o.2 ∙ inv.3,
      o.3 ∙ inv.4,
      more_finished g.T.Part.finished xs c.loop-i.room.items c.push_reserved.new.self.items
          c.loop-i.i t.0 c.take.result inv.5
          t.1 (c.take.ensures.finished t.0 t.1) c.push_reserved.ensures.items,
      omega arith,
      omega arith,
      omega arith,
      cap ∙ inv.9,
    )

pub returns-clause-finished : goal.returns-clause-finished
returns-clause-finished g c =
    let over = c.loop-i-test.false in
    let count = c.slot_count.ensures in
    let same = c.loop-i.invariant.3 in
    let opened = c.requires.opened in
    let xs = c.args.opened.now.value.opened in
    subst (λ l. AllFinished g.T.Part.finished l c.loop-i.room.items)
    (take_all c.loop-i.i xs (omega arith)) c.loop-i.invariant.5

pub returns-clause-free : goal.returns-clause-free
returns-clause-free g c k low =
    let over = c.loop-i-test.false in
    let count = c.slot_count.ensures in
    c.loop-i.invariant.1 k (omega arith)
