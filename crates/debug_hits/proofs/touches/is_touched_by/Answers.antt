use Rattle.std.proofs.Common.{◌∙◌, ap, sym, option_map}
use Rattle.kernel_calls.specs.StateWorld.{sent, world_of}
use Rattle.debug_hits.specs.Touching.{counts, touch_named}
use Rattle.debug_hits.proofs.Overlaps.{touched_by_none, touched_by_one, touched_by_other}
use Rattle.debug_hits.proofs.touches.is_touched_by.Goals as goal

pub returns-in-None : goal.returns-in-None
returns-in-None c q o e =
    let w = sent o e (world_of q c.args.state.now) in
    touched_by_none (counts c.args.may_write) w c.args.thread
    c.args.point.now (option_map touch_named c.touch_of.result) (c.touch_of.ensures.touches q o e)
    (ap (option_map touch_named) c.in-None.is)

pub returns-then-not-counts : goal.returns-then-not-counts
returns-then-not-counts c q o e =
    let w = sent o e (world_of q c.args.state.now) in
    touched_by_other (counts c.args.may_write) w c.args.thread
    c.args.point.now (option_map touch_named c.touch_of.result) (c.touch_of.ensures.touches q o e)
    (touch_named c.in-Some.touch) (ap (option_map touch_named) c.in-Some.is)
    (sym c.counts.ensures ∙ c.if-not-counts.true)

pub returns-else-not-counts : goal.returns-else-not-counts
returns-else-not-counts c q o e =
    let w = sent o e (world_of q c.args.state.now) in
    touched_by_one (counts c.args.may_write) w c.args.thread
    c.args.point.now (option_map touch_named c.touch_of.result) (c.touch_of.ensures.touches q o e)
    (touch_named c.in-Some.touch) c.process_of.result c.is_touched.result
    (ap (option_map touch_named) c.in-Some.is) (sym c.counts.ensures ∙ c.if-not-counts.false)
    c.in-Some.ensures.live c.process_of.ensures (c.is_touched.ensures q o e)
