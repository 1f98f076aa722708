use Rattle.std.proofs.Common.{ℕ, List, ◌≡◌, All, drop}
use Rattle.kernel_calls.specs.StateWorld.{IsSound, StaysInRound, sent, world_of}
use Rattle.group_rounds.specs.Buffers.{CanBePut, parts_put}
use Rattle.group_rounds.specs.Parts.{KeepsCount}
use Rattle.group_rounds.proofs.buffers.put_parts.Given as goal

-- the parts that are left, put in after those so far, make what all make
abbrev pub invariant-loop-place : goal.invariant-loop-place
invariant-loop-place l = record {
  puts : (q : ℕ) (o e : List ℕ) → parts_put (sent o e (world_of q l.fn.state)) l.fn.packs
      ≡ parts_put (sent o e (world_of q l.state)) (drop l.place l.fn.packs);
  sound : IsSound l.state;
  round : StaysInRound l.fn.state l.state;
  count : KeepsCount l.fn.state l.state;
  parts : All (CanBePut l.state) l.fn.packs;
}
