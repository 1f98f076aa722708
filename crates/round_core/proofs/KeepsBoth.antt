-- Two invariants that are kept are kept together.
use Rattle.std.proofs.Common.{ℕ, List}
use Rattle.dos_world.specs.World.{World}
use Rattle.dos_world.specs.Play.{Play}
use Rattle.dos_world.specs.Calls.{Served, went, waits, yields, gone, call_of}
use Rattle.dos_world.specs.Services.{service_of}
use Rattle.round_core.specs.Protocol.{Protocol, Allows}
use Rattle.round_core.specs.Invariants.{Holds, Keeps, LeavesServed}
use Rattle.round_core.proofs.Allowed.{allows_less, allows_both}

module _ (I J : Holds) where
  abbrev pub Both : List ℕ → World → Type 0
  Both ts w = I ts w × J ts w

  module _ (protocol : Protocol) (t : ℕ) (ts : List ℕ) where
    both_served : (s : Served) → LeavesServed I t ts s × LeavesServed J t ts s
        → LeavesServed Both t ts s
    both_served (went w) h = h
    both_served (waits w) h = h
    both_served (yields w) h = h
    both_served (gone w) h = h

    both_play : (play : Play Served) → Allows protocol (LeavesServed I t ts) play
        → Allows protocol (LeavesServed J t ts) play → Allows protocol (LeavesServed Both t ts) play
    both_play play g h =
        allows_less protocol (λ s. LeavesServed I t ts s × LeavesServed J t ts s)
        (LeavesServed Both t ts) play both_served
        (allows_both protocol (LeavesServed I t ts) (LeavesServed J t ts) play g h)

  pub both_kept : (protocol : Protocol) → Keeps protocol I → Keeps protocol J → Keeps protocol Both
  both_kept protocol i j = record {
    steps_kept = λ ts w next t is h.
        (i.steps_kept ts w next t is h.0, j.steps_kept ts w next t is h.1);
    emptied_kept = λ ts w t h. (i.emptied_kept ts w t h.0, j.emptied_kept ts w t h.1);
    budget_kept = λ ts w t h. (i.budget_kept ts w t h.0, j.budget_kept ts w t h.1);
    begins = λ w h. (i.begins w h.0, j.begins w h.1);
    passes = λ ts w t h. (i.passes ts w t h.0, j.passes ts w t h.1);
    grant_kept = λ ts w t address access e is h.
        (i.grant_kept ts w t address access e is h.0, j.grant_kept ts w t address access e is h.1);
    fault_kept = λ ts w t number is h.
        (i.fault_kept ts w t number is h.0, j.fault_kept ts w t number is h.1);
    served = λ number ts w t thread is h.
        both_play protocol t ts (service_of number (call_of w t thread))
        (i.served number ts w t thread is h.0) (j.served number ts w t thread is h.1);
    post_kept = λ w post fits h. (i.post_kept w post fits h.0, j.post_kept w post fits h.1);
    turn_kept = λ w t h. (i.turn_kept w t h.0, j.turn_kept w t h.1);
    ripen_kept = λ w h. (i.ripen_kept w h.0, j.ripen_kept w h.1);
  }
