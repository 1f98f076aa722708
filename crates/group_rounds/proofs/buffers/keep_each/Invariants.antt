use Rattle.std.proofs.Common.{◌≡◌, ◌≤◌, ◌+◌, length, vec_capacity}
use Rattle.quantum_run.specs.Packs.{empty_writing}
use Rattle.group_rounds.specs.Handing.{AreSpare}
use Rattle.group_rounds.proofs.buffers.keep_each.Given as goal

abbrev pub invariant-loop-pack : goal.invariant-loop-pack
invariant-loop-pack l = record {
  packs : AreSpare empty_writing l.packs.items;
  spare : AreSpare empty_writing l.spare.items;
  count : length l.spare.items + length l.packs.items
      ≡ length l.fn.spare.items + length l.fn.packs.items;
  spare_room : vec_capacity l.fn.spare ≤ vec_capacity l.spare;
  packs_room : vec_capacity l.packs ≡ vec_capacity l.fn.packs;
}

abbrev pub decreases-loop-pack : goal.decreases-loop-pack
decreases-loop-pack l = length l.packs.items
