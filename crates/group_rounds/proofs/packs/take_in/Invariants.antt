use Rattle.std.proofs.Common.{◌≡◌, ◌≤◌, ◌+◌, [], length, vec_capacity}
use Rattle.quantum_run.specs.Shows.{Pack}
use Rattle.group_rounds.specs.Handing.{In, AreSpare, emptied_pack}
use Rattle.group_rounds.proofs.HandingLaws.{Taking}
use Rattle.group_rounds.proofs.packs.take_in.Given as goal

abbrev pub invariant-loop-pack : goal.invariant-loop-pack
invariant-loop-pack l = record {
  taking : Taking l.fn.packs.items l.fn.state.frames l.fn.state.table l.packs.items l.state.frames
      l.state.table;
  round : l.state.round ≡ l.fn.state.round;
  pipes : l.state.pipes ≡ l.fn.state.pipes;
  futexes : l.state.futexes ≡ l.fn.state.futexes;
  spare : length l.spare.items + length l.packs.items
      ≡ length l.fn.spare.items + length l.fn.packs.items;
  all_spare : (first : Pack) → AreSpare first l.fn.spare.items
      → ((p : Pack) → In l.fn.packs.items p → emptied_pack (record p { pages = [] }) ≡ first)
      → AreSpare first l.spare.items;
  packs_room : vec_capacity l.packs ≡ vec_capacity l.fn.packs;
  room : vec_capacity l.fn.spare ≤ vec_capacity l.spare;
}

abbrev pub decreases-loop-pack : goal.decreases-loop-pack
decreases-loop-pack l = length l.packs.items
