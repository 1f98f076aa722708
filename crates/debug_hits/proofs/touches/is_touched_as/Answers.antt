use Rattle.std.proofs.Common.{ap, ◌∙◌}
use Rattle.kernel_calls.specs.StateWorld.{sent, world_of}
use Rattle.group_walk.specs.Walks.{kind_named}
use Rattle.debug_hits.specs.Kept.{is_touched_as}
use Rattle.debug_hits.proofs.touches.is_touched_as.Goals as goal

pub returns-in-Reads : goal.returns-in-Reads
returns-in-Reads c q o e =
    let w = sent o e (world_of q c.args.state.now) in
    ap (λ k. is_touched_as k w (kind_named c.args.kind)
    c.args.point.now) c.in-Reads.is
    ∙ c.is_touched_so.ensures q o e

pub returns-in-Accesses : goal.returns-in-Accesses
returns-in-Accesses c q o e =
    let w = sent o e (world_of q c.args.state.now) in
    ap (λ k. is_touched_as k w (kind_named c.args.kind)
    c.args.point.now) c.in-Accesses.is
    ∙ c.is_touched_so-in-Accesses.ensures q o e
