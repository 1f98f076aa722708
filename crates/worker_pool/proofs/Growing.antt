-- How a tally grows.
use Rattle.std.proofs.Common.{ℕ, ◌+◌, ◌%◌, ◌^◌, ◌≡◌, arith}
use Rattle.worker_pool.specs.Ran.{GrewBy}

-- by nothing
pub grew-nothing : (t : ℕ) → GrewBy t t 0
grew-nothing t = omega arith

-- by what it counts
pub grew-counted : (before after work : ℕ) → after ≡ (before + work) % 2 ^ 64
    → GrewBy before after work
grew-counted before after work is = omega (arith, is)

-- and by more
pub grew-more : (first then last work more : ℕ) → GrewBy first then work → GrewBy then last more
    → GrewBy first last (work + more)
grew-more first then last work more one two = omega (arith, one, two)
