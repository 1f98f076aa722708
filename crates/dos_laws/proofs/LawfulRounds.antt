-- What leaves every lawful world lawful, from the invariant: who has no part left is nobody, and
-- who serves is ready.
use Rattle.std.proofs.Common.{ℕ, ◌<◌, ◌≡◌, refl, sym, subst, List, [], Ok, arith}
use Rattle.std.specs.Prelude.{All}
use Rattle.dos_world.specs.World.{World}
use Rattle.dos_world.specs.Lawful.{Lawful}
use Rattle.dos_world.specs.Play.{Answer, gives, over}
use Rattle.dos_world.specs.Calls.{Served, went, waits, yields, gone}
use Rattle.dos_world.specs.Services.{service}
use Rattle.dos_world.specs.Signals.{signalled, ripen}
use Rattle.dos_world.specs.declared.Post.{Post}
use Rattle.dos_world.specs.declared.Scheme.{Scheme}
use Rattle.flat_machine.specs.Step.{step}
use Rattle.flat_machine.specs.Buffered.{Part, with_part}
use Rattle.round_core.specs.Invariants.{IsInvariant, Keeps, LeavesServed, LeavesEnd, IsOf}
use Rattle.round_core.specs.Invariants.{PhaseKeeps}
use Rattle.flat_machine.specs.Rest.{serial_of}
use Rattle.flat_machine.specs.Round.{RoundEnd, finished, stalled, phase_of, round_by, round_of}
use Rattle.flat_machine.specs.Round.{went as went_on}
use Rattle.round_core.proofs.Allowed.{over_allows}
use Rattle.round_core.proofs.Keeps.{kept_throughout, phase_keeps}
use Rattle.round_core.proofs.Buffers.{buffered-form}
use Rattle.round_core.proofs.KeepsBoth.{Both, both_kept}
use Rattle.round_core.proofs.SameRun.{same_run_kept}
use Rattle.dos_laws.specs.Plays.{world_served, world_ended}
use Rattle.dos_laws.specs.Standing.{IsAwake, AreAwake, AreApart, LawfulWith, IsPost, IsFit}
use Rattle.dos_laws.specs.Standing.{fit_protocol}
use Rattle.dos_laws.specs.Taken.{IsPartIn}
use Rattle.dos_laws.proofs.Outside.{lawful-counted}
use Rattle.dos_laws.proofs.StandsBuffered.{stands-buffered, stands-part}
use Rattle.dos_laws.proofs.StandsKeeps.{stands_kept}

-- a lawful world, in which nobody has a part left
pub at_rest : (w : World) → Lawful w → LawfulWith [] w
at_rest w l = record { lawful = l; awake = tt; apart = tt }

-- the whole round keeps it
kept : IsInvariant fit_protocol LawfulWith
kept = kept_throughout fit_protocol LawfulWith stands_kept

pub lawful-step : (w next : World) (t : ℕ) → step w t ≡ Ok next → Lawful w → Lawful next
lawful-step w next t is l = (stands_kept.steps_kept [] w next t is (at_rest w l)).lawful

-- the parallel phase of either scheme
stands_in_phase : (scheme : Scheme) → PhaseKeeps LawfulWith (phase_of scheme)
stands_in_phase = phase_keeps fit_protocol LawfulWith stands_kept stands-buffered

pub lawful-phase : (scheme : Scheme) (w : World) → Lawful w → Lawful (phase_of scheme w)
lawful-phase scheme w l = (stands_in_phase scheme [] w (at_rest w l)).lawful

-- a part that is put in
pub lawful-part : (w : World) (t : ℕ) (p : Part) → IsPartIn w.owners p → Lawful w
    → Lawful (with_part w t p)
lawful-part w t p is l = (stands-part [] w t p is (at_rest w l)).lawful

pub lawful-signalled : (w : World) (posts : List Post) → All IsPost posts → Lawful w
    → Lawful (signalled w posts)
lawful-signalled w posts fit l = (kept.signals_kept w posts fit (at_rest w l)).lawful

pub lawful-ripen : (w : World) → Lawful w → Lawful (ripen w)
lawful-ripen w l = (stands_kept.ripen_kept w (at_rest w l)).lawful

-- ---- over answers that fit

pub lawful-served : (w : World) (t : ℕ) (answers rest : List Answer) (served : Served)
    → IsAwake w t → Lawful w → All IsFit answers
    → over answers (service w t) ≡ gives served rest → Lawful (world_served served)
lawful-served w t answers rest served awake l fit is =
    left served
    (over_allows fit_protocol (LeavesServed LawfulWith t []) answers (service w t) served rest
    (kept.service_kept [] w t (record { lawful = l; awake = (awake, tt); apart = (tt, tt) })) fit
    is)
  where
    left : (s : Served) → LeavesServed LawfulWith t [] s → Lawful (world_served s)
    left (went w) k = k.lawful
    left (waits w) k = k.lawful
    left (yields w) k = k.lawful
    left (gone w) k = k.lawful

pub lawful-serial : (w last : World) (starters : List ℕ) (answers rest : List Answer)
    → AreAwake w starters → AreApart starters → Lawful w → All IsFit answers
    → over answers (serial_of w starters) ≡ gives last rest → Lawful last
lawful-serial w last starters answers rest awake apart l fit is =
    (over_allows fit_protocol (LawfulWith []) answers (serial_of w starters) last rest
    (kept.serial_kept starters w (record { lawful = l; awake = awake; apart = apart })) fit
    is).lawful

-- A round more is counted, so how many there were must be known, too.
module _ (w : World) where
  abbrev IsHere : List ℕ → World → Type 0
  IsHere ts u = IsOf w.quantum w.rounds u

  round_left : w.rounds < 1000000 → (end : RoundEnd) → LeavesEnd (Both LawfulWith IsHere []) end
      → Lawful (world_ended end)
  round_left few (went_on next work) h =
      let same : h.0.rounds ≡ w.rounds = h.2.1.1 in
      subst Lawful (sym h.1) (lawful-counted h.0 (omega (arith, few, same)) h.2.0.lawful)
  round_left few (finished last) h = h.0.lawful
  round_left few (stalled last) h = h.0.lawful

  here : Keeps fit_protocol IsHere
  here = same_run_kept w.quantum w.rounds fit_protocol (λ question output error. tt)

  -- with any parallel phase that keeps the world lawful, its quantum and its count of rounds
  lawful-round_by : (phase : World → World) → PhaseKeeps LawfulWith phase
      → PhaseKeeps IsHere phase → (end : RoundEnd) (answers rest : List Answer)
      → w.rounds < 1000000 → Lawful w → All IsFit answers
      → over answers (round_by phase w) ≡ gives end rest → Lawful (world_ended end)
  lawful-round_by phase stands stays end answers rest few l fit is =
      let both =
      both_kept LawfulWith IsHere fit_protocol stands_kept here in
      round_left few end
      (over_allows fit_protocol (LeavesEnd (Both LawfulWith IsHere [])) answers
      (round_by phase w) end rest
      ((kept_throughout fit_protocol (Both LawfulWith IsHere) both).round_kept phase
      (λ ts u h. (stands ts u h.0, stays ts u h.1)) w tt (at_rest w l, (refl, refl)))
      fit is)

  stays_in_phase : (scheme : Scheme) → PhaseKeeps IsHere (phase_of scheme)
  stays_in_phase = phase_keeps fit_protocol IsHere here
      (λ ts u h. subst (λ (x : World). IsHere ts x) (sym (buffered-form u)) h)

  pub lawful-round : (scheme : Scheme) (end : RoundEnd) (answers rest : List Answer)
      → w.rounds < 1000000 → Lawful w → All IsFit answers
      → over answers (round_of scheme w) ≡ gives end rest → Lawful (world_ended end)
  lawful-round scheme =
      lawful-round_by (phase_of scheme) (stands_in_phase scheme) (stays_in_phase scheme)
