use Rattle.std.proofs.Common.{◌≡◌, ◌∙◌, ap}
use Rattle.std.specs.Prelude.{◌&&◌, slice_get}
use Rattle.kernel_calls.specs.StateWorld.{sent, world_of}
use Rattle.debug_session.specs.declared.points.Watchpoint.{Watchpoint}
use Rattle.debug_session.specs.Hits.{is_hit_as}
use Rattle.debug_hits.proofs.Parts.{both}
use Rattle.debug_hits.proofs.watched.Watched.is_hit_while.Goals as goal

pub returns-then-is_watching : goal.returns-then-is_watching
returns-then-is_watching c before kind points q o e looked =
    let behind = sent o e (world_of q c.args.behind.now) in
    let P = λ (point : Watchpoint).
    is_hit_as point.kind before kind behind point ≡ c.is_hit.result in
    both P P
    (λ point. (c.args.is_watching && is_hit_as point.kind before kind behind point)
    ≡ c.is_hit.result)
    (slice_get points c.args.index) (c.is_hit.ensures before kind points q o e looked)
    (c.is_hit.ensures before kind points q o e looked)
    (λ point hit _. ap (λ b. b && is_hit_as point.kind before kind behind point)
    c.if-is_watching.true ∙ hit)
