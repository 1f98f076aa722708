use Rattle.std.proofs.Common.{◌≡◌, ℕ, Bool, List, drop, map}
use Rattle.std.specs.Prelude.{◌&&◌, find}
use Rattle.dos_world.specs.World.{World}
use Rattle.group_moves.specs.Moves.{MoveKind}
use Rattle.kernel_calls.specs.StateWorld.{sent, world_of}
use Rattle.debug_session.specs.declared.points.Watchpoint.{Watchpoint}
use Rattle.debug_session.specs.Hits.{is_hit_as}
use Rattle.debug_hits.specs.Kept.{HasLooked}
use Rattle.debug_hits.proofs.watched.Watched.first_hit.Given as goal

abbrev pub invariant-loop-index : goal.invariant-loop-index
invariant-loop-index l =
    (before : World) (kind : MoveKind) (points : List Watchpoint) (q : ℕ) (o e : List ℕ)
    (test : Watchpoint → Bool) → HasLooked before kind points l.self → l.watching ≡ map test points
    → find (λ point. test point
    && is_hit_as point.kind before kind (sent o e (world_of q l.behind)) point) points
    ≡ find (λ point. test point
    && is_hit_as point.kind before kind (sent o e (world_of q l.behind)) point)
    (drop l.index points)
