use Rattle.std.proofs.Common.{◌+◌, ◌-◌, ◌∙◌, ap, sym, arith}
use Rattle.kernel_calls.specs.StateWorld.{sent, world_of}
use Rattle.debug_session.specs.Told.{place_of_address}
use Rattle.debug_hits.specs.Touching.{touch_named}
use Rattle.debug_hits.proofs.Overlaps.{back_touched, front_touched, touch_nowhere}
use Rattle.debug_hits.proofs.touches.is_touched.Goals as goal

pub returns-in-None : goal.returns-in-None
returns-in-None c q o e =
    let w = sent o e (world_of q c.args.state.now) in
    touch_nowhere w c.args.process (touch_named c.args.touch.now)
    c.args.point.now
    (ap (place_of_address w c.args.process) (sym c.from.ensures)
    ∙ c.in-None.ensures.place q o e)

pub returns-then-is_part_touched : goal.returns-then-is_part_touched
returns-then-is_part_touched c q o e =
    let w = sent o e (world_of q c.args.state.now) in
    let count = c.front_count-count.result in
    let left = c.args.point.now.length - count in
    let next = c.args.point.now.address + count in
    front_touched w c.args.process (touch_named c.args.touch.now)
    c.args.point.now c.in-Some.first count left next c.from-start.result
    (ap (place_of_address w c.args.process) (sym c.from.ensures)
    ∙ c.in-Some.ensures.place q o e)
    (omega (arith, c.front_count-count.ensures)) c.from-start.ensures (omega arith)
    (c.is_part_touched.ensures q o e ∙ c.if-is_part_touched.true)

pub returns-else-is_part_touched : goal.returns-else-is_part_touched
returns-else-is_part_touched c q o e =
    let w = sent o e (world_of q c.args.state.now) in
    let count = c.front_count-count.result in
    let left = c.args.point.now.length - count in
    let next = c.from-start.result + c.from-in-Some.result in
    back_touched w c.args.process (touch_named c.args.touch.now)
    c.args.point.now c.in-Some.first count left next c.from-start.result
    (ap (place_of_address w c.args.process) (sym c.from.ensures)
    ∙ c.in-Some.ensures.place q o e)
    (omega (arith, c.front_count-count.ensures)) c.from-start.ensures (omega arith)
    c.is_part_touched-in-Some.result (c.is_part_touched.ensures q o e ∙ c.if-is_part_touched.false)
    (c.is_part_touched-in-Some.ensures q o e)
