use Rattle.std.proofs.Common.{ap, ◌∙◌}
use Rattle.kernel_calls.specs.StateWorld.{sent, world_of}
use Rattle.group_walk.specs.Walks.{kind_named}
use Rattle.debug_session.specs.Hits as hits
use Rattle.debug_hits.specs.Touching.{counts}
use Rattle.debug_hits.proofs.touches.is_touched_so.Goals as goal

pub returns-in-Runs : goal.returns-in-Runs
returns-in-Runs c q o e =
    let w = sent o e (world_of q c.args.state.now) in
    ap (λ k. hits.is_touched_so (counts c.args.may_write) w
    (kind_named k) c.args.point.now) c.in-Runs.is
    ∙ c.is_touched_by.ensures q o e
