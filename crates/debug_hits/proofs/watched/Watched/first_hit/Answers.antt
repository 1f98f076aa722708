use Rattle.std.proofs.Common.{◌≡◌, ◌∙◌, ap, length, arith}
use Rattle.std.proofs.lemmas.List.{length-map}
use Rattle.std.specs.Prelude.{◌&&◌}
use Rattle.kernel_calls.specs.StateWorld.{sent, world_of}
use Rattle.debug_session.specs.declared.points.Watchpoint.{Watchpoint}
use Rattle.debug_session.specs.Hits.{is_hit_as}
use Rattle.debug_hits.proofs.Parts.{by_mark}
use Rattle.debug_hits.proofs.Hitting.{find_none, is_here, not_here}
use Rattle.debug_hits.proofs.watched.Watched.first_hit.Goals as goal

pub returns-then-is_hit_while : goal.returns-then-is_hit_while
returns-then-is_hit_while c before kind points q o e test looked tests =
    let behind = sent o e (world_of q c.args.behind.now) in
    let i = c.loop-index.index in
    let mark = c.index.result.now in
    c.loop-index.invariant before kind points q o e test looked tests
    ∙ is_here test (λ (point : Watchpoint). is_hit_as point.kind before kind behind point) points
    c.args.watching.now i c.is_hit_while.result tests c.loop-index-test.true
    (c.is_hit_while.ensures before kind points q o e looked) mark.point c.if-is_hit_while.true
    (by_mark before behind kind points c.self.inside.bytes.items c.self.inside.marks.items i mark
    c.args.self.now looked c.self.view_is (omega arith) c.index.ensures
    (λ point. point ≡ mark.point) (λ point same _. same))

pub loop-index-preserved : goal.loop-index-preserved
loop-index-preserved c before kind points q o e test looked tests =
    let behind = sent o e (world_of q c.args.behind.now) in
    c.loop-index.invariant before kind points q o e test looked tests
    ∙ not_here test (λ (point : Watchpoint). is_hit_as point.kind before kind behind point) points
    c.args.watching.now c.loop-index.index c.is_hit_while.result tests c.loop-index-test.true
    (c.is_hit_while.ensures before kind points q o e looked) c.if-is_hit_while.false

pub returns : goal.returns
returns c before kind points q o e test looked tests =
    let behind = sent o e (world_of q c.args.behind.now) in
    c.loop-index.invariant before kind points q o e test looked tests
    ∙ find_none (λ (point : Watchpoint). test point
    && is_hit_as point.kind before kind behind point) points c.loop-index.index
    (omega (arith, ap length tests, length-map points test))
