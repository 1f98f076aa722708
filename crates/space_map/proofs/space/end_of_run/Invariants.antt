use Rattle.std.proofs.Common.{◌≡◌, ◌<◌, ◌≤◌, ℕ, true, slice_index_or}
use Rattle.space_map.specs.Mapping.{in_run, no_entry}
use Rattle.space_map.proofs.space.end_of_run.Given as goal

abbrev pub invariant-loop-place : goal.invariant-loop-place
invariant-loop-place l = (i : ℕ) → l.first ≤ i → i < l.place
    → in_run l.page l.count (slice_index_or l.entries i (0, no_entry)) ≡ true
