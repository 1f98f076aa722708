use Rattle.std.proofs.Common.{◌≡◌, ℕ, ◌≤◌, ◌<◌, Bool, true, length, sym, ◌∙◌, rules, arith}
use Rattle.std.specs.Prelude.{nat_le, ◌||◌}
use Rattle.std.proofs.lemmas.Bool.Decides.{nat_tests}
use Rattle.proc_table.proofs.Shown.{full_shown}
use Rattle.proc_table.proofs.threads.Threads.is_full.Goals as goal

by_count : (n : ℕ) (b : Bool) → 64 ≤ n → true ≡ (nat_le 64 n || b)
by_count n b h = grind (arith, nat_tests)

by_number : (n : ℕ) (b : Bool) → n < 64 → b ≡ (nat_le 64 n || b)
by_number n b h = grind (arith, nat_tests)

pub returns-then-len-ge-MOST_THREADS : goal.returns-then-len-ge-MOST_THREADS
returns-then-len-ge-MOST_THREADS c =
    let count : c.len.result ≡ length c.self.inside.live.items = search rules in
    by_count (length c.self.inside.live.items) _ (omega (arith, c.if-len-ge-MOST_THREADS.true))
    ∙ sym (full_shown c.self.view_is c.self.invariant)

pub returns : goal.returns
returns c =
    let count : c.len.result ≡ length c.self.inside.live.items = search rules in
    by_number (length c.self.inside.live.items) _ (omega (arith, c.if-len-ge-MOST_THREADS.false))
    ∙ sym (full_shown c.self.view_is c.self.invariant)
