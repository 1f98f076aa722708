use Rattle.std.proofs.Common.{ℕ, ◌≡◌, ◌<◌, ◌≤◌}
use Rattle.std.specs.Prelude.{slice_get, option_map}
use Rattle.std.specs.Vec.{vec_len}
use Rattle.code_pages.specs.Lines.{unlearnt}
use Rattle.code_pages.proofs.known.forget_all.Given as goal

abbrev pub invariant-loop-place : goal.invariant-loop-place
invariant-loop-place l = record {
  count : vec_len l.pages ≡ vec_len l.fn.pages;
  below : (i : ℕ) → i < l.place → slice_get l.pages.items i
      ≡ option_map (λ slot. option_map unlearnt slot) (slice_get l.fn.pages.items i);
  rest : (i : ℕ) → l.place ≤ i → slice_get l.pages.items i ≡ slice_get l.fn.pages.items i;
}
