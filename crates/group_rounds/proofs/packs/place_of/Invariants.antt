use Rattle.std.proofs.Common.{ℕ, ◌<◌, ◌≢◌, Some}
use Rattle.std.specs.Prelude.{slice_get}
use Rattle.group_rounds.proofs.packs.place_of.Given as goal

abbrev pub invariant-loop-place : goal.invariant-loop-place
invariant-loop-place l = (i : ℕ) → i < l.place → slice_get l.fn.starters i ≢ Some l.fn.tid
