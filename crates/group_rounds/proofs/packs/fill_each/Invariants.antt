use Rattle.std.proofs.Common.{◌≡◌, ◌≤◌, ◌+◌, [], length, map, take, vec_capacity}
use Rattle.quantum_run.specs.Shows.{Pack}
use Rattle.group_rounds.specs.Handing.{AreSpare, In, pack_of}
use Rattle.group_rounds.proofs.packs.fill_each.Given as goal

abbrev pub invariant-loop-tid : goal.invariant-loop-tid
invariant-loop-tid l = record {
  packs : (first : Pack) → AreSpare first l.fn.spare.items
      → l.packs.items ≡ map (pack_of l.fn.table first) (take l.tid-index l.fn.starters);
  count : length l.packs.items ≡ l.tid-index;
  spare : (first : Pack) → AreSpare first l.fn.spare.items → AreSpare first l.spare.items;
  empty : (p : Pack) → In l.spare.items p → p.pages ≡ [];
  less : length l.spare.items + l.tid-index ≡ length l.fn.spare.items;
  spare_room : vec_capacity l.spare ≡ vec_capacity l.fn.spare;
  room : vec_capacity l.fn.packs ≤ vec_capacity l.packs;
}
