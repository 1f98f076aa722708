-- Tests that are joined.
use Rattle.std.proofs.Common.{◌≡◌, ℕ, Bool, true, false, Option, Some, None, refl, sym, ap, ◌∙◌}
use Rattle.std.specs.Prelude.{◌&&◌, ◌||◌, is_some, IfSome}
use Rattle.std.proofs.lemmas.Bool.{true≢false}
use Rattle.dos_world.specs.World.{Thread}

pub and_both : (a b : Bool) → (a && b) ≡ true → (a ≡ true) × (b ≡ true)
and_both true b is = (refl, is)
and_both false b is = absurd (true≢false (sym is))

pub or_either : (a b : Bool) → (a || b) ≡ true → a ≡ false → b ≡ true
or_either true b is not_a = absurd (true≢false not_a)
or_either false b is not_a = is

pub or_second : (a b : Bool) → b ≡ true → (a || b) ≡ true
or_second true b is = refl
or_second false b is = is

-- the second test of two, where the first passes
pub second_of : (tested first second r : Bool) → tested ≡ first → tested ≡ true → r ≡ second
    → r ≡ (first && second)
second_of tested true second r is passes told = told
second_of tested false second r is passes told = absurd (true≢false (sym passes ∙ is))

-- the first test of two fails
pub first_fails : (tested first second : Bool) → tested ≡ first → tested ≡ false
    → false ≡ (first && second)
first_fails tested true second is fails = absurd (true≢false (sym is ∙ fails))
first_fails tested false second is fails = refl

-- what is told of the process of a thread that lives
pub by_process : (o : Option Thread) (test : ℕ → Bool) (p : ℕ) (tested r : Bool)
    → tested ≡ is_some o → tested ≡ true → IfSome o (λ thread. p ≡ thread.process) → r ≡ test p
    → r ≡ elim o [ None ↦ false | Some thread ↦ test thread.process ]
by_process None test p tested r is lives of told = absurd (true≢false (sym lives ∙ is))
by_process (Some thread) test p tested r is lives of told = told ∙ ap test of

-- the first test of two passes
pub first_holds : (tested first second : Bool) → tested ≡ first → tested ≡ true
    → true ≡ (first || second)
first_holds tested true second is holds = refl
first_holds tested false second is holds = absurd (true≢false (sym holds ∙ is))

-- the second of two, where the first fails
pub or_second_of : (tested first second r : Bool) → tested ≡ first → tested ≡ false → r ≡ second
    → r ≡ (first || second)
or_second_of tested true second r is fails told = absurd (true≢false (sym is ∙ fails))
or_second_of tested false second r is fails told = told
