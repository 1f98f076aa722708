use Rattle.std.proofs.Common.{◌≡◌, ℕ, List, take, map}
use Rattle.kernel_calls.specs.StateWorld.{sent, world_of}
use Rattle.group_walk.specs.Walks.{kind_named}
use Rattle.debug_hits.specs.Kept.{kept_of}
use Rattle.debug_hits.proofs.watched.Watched.look.Given as goal

abbrev pub invariant-loop-i : goal.invariant-loop-i
invariant-loop-i l = (q : ℕ) (o e : List ℕ)
    → l.self ≡ map (kept_of (sent o e (world_of q l.state)) (kind_named l.kind)) (take l.i l.points)
