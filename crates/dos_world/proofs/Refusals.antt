-- A call that is refused changes its thread's registers alone, and which calls are refused.
use Rattle.std.proofs.Common.{ℕ, ◌≡◌, inl, inr, refl, sym, ap, ◌∙◌, subst, Bool, cond, true, false}
use Rattle.std.proofs.Common.{List, Option, Some, None, option_map}
use Rattle.std.specs.Prelude.{slice_set, ◌==◌, ◌&&◌, find, is_some}
use Rattle.std.proofs.lemmas.Bool.{and_parts, eqb-true}
use Rattle.dos_world.specs.Numbered.{numbered, changed}
use Rattle.dos_world.specs.World.{World, Thread, Registers, flat, thread_at, with_thread}
use Rattle.dos_world.specs.World.{with_registers, registers_by, get}
use Rattle.dos_world.specs.Kernel.{opened}
use Rattle.dos_world.specs.Calls.{Call, Service, call_of, charged}
use Rattle.dos_world.specs.Services.{services, service_by, service_for}
use Rattle.dos_world.specs.Refusals.{refusals, conditions_by, first_that_holds, refusal_for}
use Rattle.dos_world.specs.Refusals.{granted_before, refused_registers}
use Rattle.dos_world.specs.Laws.{but_for_registers, SameButRegistersAndOwners, KeepsOwners}
use Rattle.dos_world.specs.Laws.{RefusedCallsChangeRegistersAlone, OnlyTheseAreRefused}
use Rattle.dos_world.specs.Reach.{Reached, fault, foreign, at, reach, grant}
use Rattle.dos_world.specs.declared.Owner.{Owner}
use Rattle.dos_world.specs.declared.Owner.TheVariants.{Shared}
use Rattle.dos_world.specs.declared.Access.TheVariants.{Load}
use Rattle.dos_world.specs.declared.Size.TheVariants.{Byte}
use Rattle.dos_world.proofs.Numbers.{changed_other, changed_there}
use Rattle.dos_world.proofs.Unrefused.{NotRefused}
use Rattle.dos_world.proofs.UsualCalls.{IsUsual, usual}
use Rattle.dos_world.proofs.RefusalRows.{IsRow, refusal_play, checked-some, checked-none, found-row}
use Rattle.dos_world.proofs.RefusalRows.{all-rows}

-- ---- what a refusal leaves

-- a world with other owners, and t's registers and budget changed
same_but : (w : World) (owners : List Owner) (t : ℕ) (f : Registers → Registers)
    → SameButRegistersAndOwners w
    (with_registers (record (with_thread w t charged) { owners = owners }) t f) t
same_but w owners t f = record {
  bytes = refl;
  processes = refl;
  others = λ s other. ap flat
      (changed_other (option_map (registers_by f))
      (changed (option_map charged) w.threads t) t s other
      ∙ changed_other (option_map charged) w.threads t s other);
  thread = ap (option_map but_for_registers)
      (changed_there (registers_by f) (changed (option_map charged) w.threads t) t
      ∙ ap (option_map (registers_by f)) (changed_there charged w.threads t))
      ∙ same_thread (flat (numbered w.threads t));
  pipes = refl;
  sleepers = refl;
  rounds = refl;
  quantum = refl;
  output = refl;
  error = refl;
}
  where
    same_thread : (o : Option Thread)
        → option_map but_for_registers (option_map (registers_by f) (option_map charged o))
        ≡ option_map but_for_registers o
    same_thread None = refl
    same_thread (Some thread) = refl

-- what is the same after a refusal
abbrev Kept : World → ℕ → Thread → ℕ → ℕ → World → Type 0
Kept w t thread named number before =
    let left : World = with_registers before t (refused_registers named number) in
    SameButRegistersAndOwners w left t × KeepsOwners named number w left

kept : (w : World) (t : ℕ) (thread : Thread) (named number : ℕ)
    → Kept w t thread named number (granted_before named number (call_of w t thread))
kept w t thread named number = by_row ((number == 11) && (named == 11)) refl
  where
    paid : World
    paid = with_thread w t charged

    f : Registers → Registers
    f = refused_registers named number

    by_reached : (r : Reached) → named ≡ 11 → number ≡ 11
        → Kept w t thread named number
        (elim r as (λ _. World) [
          | fault n ↦ paid
          | foreign frame ↦ grant paid t frame Load
          | at place ↦ paid
        ])
    by_reached (fault n) this eleven = (same_but w w.owners t f, inl refl)
    by_reached (at place) this eleven = (same_but w w.owners t f, inl refl)
    by_reached (foreign frame) this eleven =
        (same_but w (slice_set w.owners frame Shared) t f, inr (this, eleven, (frame, refl)))

    by_row : (b : Bool) → ((number == 11) && (named == 11)) ≡ b
        → Kept w t thread named number (cond b (opened paid t (get thread.registers 10) Load) paid)
    by_row false e = (same_but w w.owners t f, inl refl)
    by_row true e =
        let p = and_parts (number == 11) (named == 11) e in
        by_reached (reach paid t (get thread.registers 10) Byte Load) (eqb-true named 11 p.1)
        (eqb-true number 11 p.0)

-- ---- a call of a service, or of none

-- where the table has a number
refused-row : (row : ℕ × Service) → IsRow row → (c : Call) (thread : Thread)
    → thread_at c.world c.thread ≡ Some thread
    → (number : ℕ) → first_that_holds (conditions_by (find (λ r. r.0 == row.0) refusals)) c
    ≡ Some number → row.1 c ≡ refusal_play row.0 c number
refused-row row is c thread lives number h =
    let at = is c thread lives in
    at.1 ∙ checked-some (conditions_by (find (λ r. r.0 == row.0) refusals)) c
    (refusal_play row.0 c) at.0 number h

-- where it has none
unrefused-row : (row : ℕ × Service) → IsRow row → (c : Call) (thread : Thread)
    → thread_at c.world c.thread ≡ Some thread → IsUsual c
    → first_that_holds (conditions_by (find (λ r. r.0 == row.0) refusals)) c ≡ None
    → NotRefused row.0 c (row.1 c)
unrefused-row row is c thread lives u h number above below e =
    let at = is c thread lives in
    at.2 u number above below
    (sym (at.1 ∙ checked-none (conditions_by (find (λ r. r.0 == row.0) refusals)) c
    (refusal_play row.0 c) at.0 h) ∙ e)

-- by the row that is found
refused-by : (o : Option (ℕ × Service)) (service : ℕ)
    → find (λ row. row.0 == service) services ≡ o
    → (c : Call) (thread : Thread) → thread_at c.world c.thread ≡ Some thread → (number : ℕ)
    → cond (is_some o)
    (first_that_holds (conditions_by (find (λ row. row.0 == service) refusals)) c) (Some 38)
    ≡ Some number
    → service_by o c ≡ refusal_play service c number
refused-by None service e c thread lives number h = let same : 38 ≡ number = cc in
    ap (refusal_play service c) same
refused-by (Some row) service e c thread lives number h =
    let found = found-row services all-rows service row e in
    subst (λ n. first_that_holds (conditions_by (find (λ r. r.0 == n) refusals)) c ≡ Some number
    → row.1 c ≡ refusal_play n c number) found.0
    (refused-row row found.1 c thread lives number) h

unrefused-by : (o : Option (ℕ × Service)) (service : ℕ)
    → find (λ row. row.0 == service) services ≡ o
    → (c : Call) (thread : Thread) → thread_at c.world c.thread ≡ Some thread → IsUsual c
    → cond (is_some o)
    (first_that_holds (conditions_by (find (λ row. row.0 == service) refusals)) c) (Some 38)
    ≡ None
    → NotRefused service c (service_by o c)
unrefused-by None service e c thread lives u h = absurd cc
unrefused-by (Some row) service e c thread lives u h =
    let found = found-row services all-rows service row e in
    subst (λ n. first_that_holds (conditions_by (find (λ r. r.0 == n) refusals)) c ≡ None
    → NotRefused n c (row.1 c)) found.0 (unrefused-row row found.1 c thread lives u) h

-- ---- both laws

-- the call's own thread, once it has paid
caller : (w : World) (t : ℕ) (thread : Thread) → thread_at w t ≡ Some thread
    → thread_at (call_of w t thread).world t ≡ Some (charged thread)
caller w t thread is = changed_there charged w.threads t ∙ ap (option_map charged) is

pub refused_calls : RefusedCallsChangeRegistersAlone
refused_calls w t thread is number h =
    let named : ℕ = get thread.registers 17 in
    let c : Call = call_of w t thread in
    let which = sym (ap (refusal_for w t) is) ∙ h in
    let same = kept w t thread named number in (
      ap (service_for w t) is
          ∙ refused-by
          (find (λ row. row.0 == named) services) named refl c (charged thread)
          (caller w t thread is) number which,
      same.0,
      same.1,
    )

pub only_these : OnlyTheseAreRefused
only_these w law t thread is h number above below e =
    let named : ℕ = get thread.registers 17 in
    let c : Call = call_of w t thread in
    let which = sym (ap (refusal_for w t) is) ∙ h in
    unrefused-by
    (find (λ row. row.0 == named) services) named refl c (charged thread)
    (caller w t thread is) (usual w t thread law is) which number above below
    (sym (ap (service_for w t) is) ∙ e)
