-- A leader follows itself, and following goes on.
use Rattle.std.proofs.Common.{◌≡◌, ℕ, ◌+◌, ◌≤◌, ◌⊎◌, List, [], ◌++◌, length, Option, Some, refl}
use Rattle.std.proofs.Common.{sym, ap, ◌∙◌, append_assoc, arith, inl, inr}
use Rattle.std.proofs.lemmas.List.{append-nil}
use Rattle.dos_io.specs.declared.exchange.Exchange.{Exchange}
use Rattle.dos_io.specs.declared.exchange.ClockRule.TheVariants.{FromHost}
use Rattle.dos_io.specs.declared.shim.ShimStop.TheVariants.{HostFault}
use Rattle.dos_io.specs.Hosts.{Told}
use Rattle.dos_io.specs.Given.{readings, Given}
use Rattle.dos_io.specs.Outside.{Rose}
use Rattle.dos_io.proofs.GivenLaws.{given_then, given_none, rose_before, rose_after}
use Rattle.twin_shims.specs.Leader.{TellerState, FollowsLeader}

pub leads_itself : (s : TellerState) (a : Option Told) (m : ℕ) → FollowsLeader s s a a m m
leads_itself s a m = record {
  line_same = refl;
  more = [];
  told_is = sym (append-nil s.told);
  given = given_none [] FromHost 0 a;
  grows = omega arith;
  cause = inl (refl, refl);
}

-- the count of readings before matters for a counted clock alone
from_any : (k : ℕ) (a b : Option Told) (es : List Exchange) → Given [] FromHost 0 a b es
    → Given [] FromHost k a b es
from_any k a b es g = record { signals = g.signals; counted = tt; host = g.host }

cause_then : (s t u : TellerState) (l m n : ℕ) → l ≤ m → m ≤ n
    → ((t.stops ≡ s.stops) × (t.last ≡ s.last)) ⊎ (t.last ≡ Some HostFault → Rose l m)
    → ((u.stops ≡ t.stops) × (u.last ≡ t.last)) ⊎ (u.last ≡ Some HostFault → Rose m n)
    → ((u.stops ≡ s.stops) × (u.last ≡ s.last)) ⊎ (u.last ≡ Some HostFault → Rose l n)
cause_then s t u l m n p q c (inr h) = inr (λ e. rose_before l m n p q (h e))
cause_then s t u l m n p q (inl same) (inl same') = inl (same'.0 ∙ same.0, same'.1 ∙ same.1)
cause_then s t u l m n p q (inr h) (inl same') = inr (λ e. rose_after l m n (h (sym same'.1 ∙ e)) q)

pub leads_on : (s t u : TellerState) (a b c : Option Told) (l m n : ℕ) → FollowsLeader s t a b l m
    → FollowsLeader t u b c m n → FollowsLeader s u a c l n
leads_on s t u a b c l m n p q = record {
  line_same = q.line_same ∙ p.line_same;
  more = p.more ++ q.more;
  told_is = q.told_is ∙ ap (λ (x : List Exchange). x ++ q.more) p.told_is
      ∙ append_assoc s.told p.more q.more;
  given = given_then [] FromHost 0 a b c p.more q.more p.given
      (from_any (0 + length (readings p.more)) b c q.more q.given);
  grows = omega (arith, p.grows, q.grows);
  cause = cause_then s t u l m n p.grows q.grows p.cause q.cause;
}
