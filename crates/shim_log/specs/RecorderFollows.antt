-- A recorder follows itself, and following goes on.
use Rattle.std.proofs.Common.{◌≡◌, ℕ, ◌+◌, ◌≤◌, ◌⊎◌, List, [], ◌++◌, length, Option, Some, refl}
use Rattle.std.proofs.Common.{sym, ap, subst, ◌∙◌, append_assoc, arith, inl, inr}
use Rattle.std.proofs.lemmas.List.{append-nil, length-append}
use Rattle.dos_world.specs.declared.Post.{Post}
use Rattle.dos_io.specs.declared.exchange.Exchange.{Exchange}
use Rattle.dos_io.specs.declared.exchange.ClockRule.{ClockRule}
use Rattle.dos_io.specs.declared.shim.ShimStop.TheVariants.{HostFault}
use Rattle.dos_io.specs.Hosts.{Told}
use Rattle.dos_io.specs.Given.{readings, Given}
use Rattle.dos_io.specs.Outside.{Rose}
use Rattle.dos_io.proofs.GivenLaws.{given_then, given_none, readings_append, rose_before}
use Rattle.dos_io.proofs.GivenLaws.{rose_after}
use Rattle.shim_log.specs.Ledger.{LedgerState, recorder_state, RecorderFollows}

pub follows_itself : (s : LedgerState) (a : Option Told) (m : ℕ) → RecorderFollows s s a a m m
follows_itself s a m = record {
  header_same = refl;
  posts_same = refl;
  clock_same = refl;
  more = [];
  told_is = sym (append-nil (recorder_state s).told);
  given = given_none s.posts s.clock _ a;
  grows = omega arith;
  cause = inl (refl, refl);
}

cause_then : (s t u : LedgerState) (l m n : ℕ) → l ≤ m → m ≤ n
    → ((t.stops ≡ s.stops) × (t.last ≡ s.last)) ⊎ (t.last ≡ Some HostFault → Rose l m)
    → ((u.stops ≡ t.stops) × (u.last ≡ t.last)) ⊎ (u.last ≡ Some HostFault → Rose m n)
    → ((u.stops ≡ s.stops) × (u.last ≡ s.last)) ⊎ (u.last ≡ Some HostFault → Rose l n)
cause_then s t u l m n p q c (inr h) = inr (λ e. rose_before l m n p q (h e))
cause_then s t u l m n p q (inl same) (inl same') = inl (same'.0 ∙ same.0, same'.1 ∙ same.1)
cause_then s t u l m n p q (inr h) (inl same') = inr (λ e. rose_after l m n (h (sym same'.1 ∙ e)) q)

pub follows_on : (s t u : LedgerState) (a b c : Option Told) (l m n : ℕ)
    → RecorderFollows s t a b l m
    → RecorderFollows t u b c m n → RecorderFollows s u a c l n
follows_on s t u a b c l m n p q =
    let count : length (readings (recorder_state t).told)
    ≡ length (readings (recorder_state s).told) + length (readings p.more) =
    ap (λ (x : List Exchange). length (readings x)) p.told_is
    ∙ ap length (readings_append (recorder_state s).told p.more)
    ∙ length-append (readings (recorder_state s).told) (readings p.more) in
    let second : Given s.posts s.clock (length (readings (recorder_state s).told) + length
    (readings p.more)) b c q.more =
    subst (λ (k : ℕ). Given s.posts s.clock k b c q.more) count
    (subst (λ (r : ClockRule). Given s.posts r (length (readings (recorder_state t).told)) b c
    q.more) p.clock_same
    (subst (λ (x : List (ℕ × Post)). Given x t.clock (length (readings (recorder_state t).told)) b c
    q.more) p.posts_same q.given)) in
    record {
      header_same = q.header_same ∙ p.header_same;
      posts_same = q.posts_same ∙ p.posts_same;
      clock_same = q.clock_same ∙ p.clock_same;
      more = p.more ++ q.more;
      told_is = q.told_is ∙ ap (λ (x : List Exchange). x ++ q.more) p.told_is
          ∙ append_assoc (recorder_state s).told p.more q.more;
      given = given_then s.posts s.clock _ a b c p.more q.more p.given second;
      grows = omega (arith, p.grows, q.grows);
      cause = cause_then s t u l m n p.grows q.grows p.cause q.cause;
    }
