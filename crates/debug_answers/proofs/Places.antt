-- The first place in a list at which a test passes.
use Rattle.std.proofs.Common.{◌≡◌, ℕ, ◌+◌, ◌<◌, Bool, true, false, not, cond, List}
use Rattle.std.proofs.Common.{length, drop, Some, None, sym, ap, ◌∙◌, arith, nat_lt}
use Rattle.std.proofs.Common.{map}
use Rattle.std.proofs.lemmas.Bool.Decides.{nat_tests}
use Rattle.std.specs.Prelude.{slice_get, position, option_map}
use Rattle.std.specs.Global.{Vec}
use Rattle.std.specs.List.{prefix_len}
use Rattle.std.proofs.lemmas.Option.{slice_get_within, slice_get-map}
use Rattle.kernel_objects.specs.Pipework.{vector_bytes}
use Rattle.debug_session.specs.Files.{rooted}
use Rattle.debug_answers.proofs.Rows.{drop_at}

module _ {X : Type 0} (test : X → Bool) where
  abbrev fails : X → Bool
  fails x = not (test x)

  -- how many fail from this place on
  abbrev pub failing : List X → ℕ → ℕ
  failing xs i = prefix_len fails (drop i xs)

  module _ (xs : List X) (i : ℕ) (before : i + failing xs i ≡ failing xs 0) where
    pub fails_on : (x : X) → slice_get xs i ≡ Some x → test x ≡ false
        → (i + 1) + failing xs (i + 1) ≡ failing xs 0
    fails_on x is failed =
        let here : failing xs i ≡ 1 + failing xs (i + 1) =
        ap (prefix_len fails) (drop_at xs i x is)
        ∙ ap (λ b. cond (not b) (1 + failing xs (i + 1)) 0) failed in
        omega (arith, here, before)

    pub passes_at : (x : X) → slice_get xs i ≡ Some x → test x ≡ true → Some i ≡ position test xs
    passes_at x is passed =
        let here : failing xs i ≡ 0 =
        ap (prefix_len fails) (drop_at xs i x is)
        ∙ ap (λ b. cond (not b) (1 + failing xs (i + 1)) 0) passed in
        let at : prefix_len fails xs ≡ i = omega (arith, here, before) in
        let short : i < length xs = slice_get_within xs i x is in
        let less : nat_lt i (length xs) ≡ true = grind (arith, nat_tests) in
        sym (
        ap (λ n. cond (nat_lt n (length xs)) (Some n) None) at
        ∙ ap (λ b. cond b (Some i) None) less)

-- ---- files and names as vectors

pub bytes_at : (files : List (Vec ℕ)) (i : ℕ) (v : Vec ℕ) → slice_get files i ≡ Some v
    → slice_get (vector_bytes files) i ≡ Some v.items
bytes_at files i v is =
    slice_get-map (λ (v : Vec ℕ). v.items) files i ∙ ap (option_map (λ (v : Vec ℕ). v.items)) is

-- names with `/` before them
pub rooted_at : (names : List (Vec ℕ)) (i : ℕ) (v : Vec ℕ) → slice_get names i ≡ Some v
    → slice_get (map rooted (vector_bytes names)) i ≡ Some (rooted v.items)
rooted_at names i v is =
    slice_get-map rooted (vector_bytes names) i ∙ ap (option_map rooted) (bytes_at names i v is)
