-- What is set, where it lets instructions tell of nothing.
use Rattle.std.proofs.Common.{◌≡◌, ℕ, Bool, true, false, List, [], ◌∷◌, All, map, refl, sym}
use Rattle.std.proofs.Common.{subst}
use Rattle.std.specs.Prelude.{◌==◌, ◌&&◌, ◌||◌}
use Rattle.std.specs.List.{list_any}
use Rattle.debug_session.specs.Points.{is_breakpoint, is_broken_at}
use Rattle.debug_session.specs.Positions.{Position}
use Rattle.debug_session.specs.Sessions.{Session}
use Rattle.debug_session.specs.declared.points.Breakpoint.{Breakpoint}
use Rattle.debugger.specs.Quiet.{IsForChanges, StopsAtAddresses}
use Rattle.debugger.specs.Standing.{IsAsked, SessionView}

-- one of a pair, or what follows from the rest
second_or : (x y r other : Bool) → (r ≡ true → other ≡ true) → ((x && y) || r) ≡ true
    → (y || other) ≡ true
second_or true true r other rest is = refl
second_or true false r other rest is = rest is
second_or false true r other rest is = refl
second_or false false r other rest is = rest is

addresses_there : (points : List Breakpoint) (p pc : ℕ) → is_broken_at points p pc ≡ true
    → list_any (λ (stop : ℕ). stop == pc) (map (λ (b : Breakpoint). b.address) points) ≡ true
addresses_there [] p pc is = is
addresses_there (b ∷ points) p pc is =
    second_or (b.process == p) (b.address == pc) (list_any (is_breakpoint p pc) points)
    (list_any (λ (stop : ℕ). stop == pc) (map (λ (x : Breakpoint). x.address) points))
    (addresses_there points p pc) is

-- by the client that the session has
pub quiet_for : (k : SessionView) (start : Position) (s : Session) (stops : List ℕ)
    → All IsForChanges k.client.watchpoints
    → stops ≡ map (λ (b : Breakpoint). b.address) k.client.breakpoints
    → IsAsked k start s → StopsAtAddresses s stops
quiet_for k start s stops changes each asked = record {
  changes = subst (λ (u : Session). All IsForChanges u.watchpoints) (sym asked.is) changes;
  stops_there = λ p pc broken.
      subst (λ (l : List ℕ). list_any (λ (stop : ℕ). stop == pc) l ≡ true) (sym each)
      (addresses_there k.client.breakpoints p pc
      (subst (λ (u : Session). is_broken_at u.breakpoints p pc ≡ true) asked.is broken));
}
