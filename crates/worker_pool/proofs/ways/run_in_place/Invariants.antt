use Rattle.std.proofs.Common.{◌≡◌, ◌≤◌, ◌<◌, ℕ, length, vec_capacity}
use Rattle.std.specs.Prelude.{slice_index_or}
use Rattle.quantum_run.specs.Packs.{seen_by_view}
use Rattle.quantum_run.specs.Shows.{Pack}
use Rattle.worker_pool.specs.Ran.{HasRun}
use Rattle.worker_pool.proofs.ways.run_in_place.Given as goal

abbrev pub invariant-loop-place : goal.invariant-loop-place
invariant-loop-place g l = record {
  level : length l.packs.items ≡ length l.fn.packs.items;
  ran : (j : ℕ) (d : Pack) → j < l.place
      → HasRun (seen_by_view l.fn.view) (slice_index_or l.fn.packs.items j d)
      (slice_index_or l.packs.items j d);
  rest : (j : ℕ) (d : Pack) → l.place ≤ j → j < length l.fn.packs.items
      → slice_index_or l.packs.items j d ≡ slice_index_or l.fn.packs.items j d;
  room : vec_capacity l.packs ≡ vec_capacity l.fn.packs;
}
