-- A run leads from a lawful world to a lawful world, over all answers that fit.
use Rattle.std.proofs.Common.{ℕ, ◌+◌, ◌-◌, ◌≤◌, ◌≡◌, refl, sym, ap, subst, List, length}
use Rattle.std.proofs.Common.{arith}
use Rattle.std.specs.Prelude.{All}
use Rattle.dos_world.specs.World.{World}
use Rattle.dos_world.specs.Play.{Answer, gives, over}
use Rattle.dos_world.specs.Lawful.{Lawful, IsConfig}
use Rattle.dos_world.specs.declared.Config.{Config}
use Rattle.dos_world.specs.declared.Scheme.{Scheme}
use Rattle.elf_image.specs.Image.{Image}
use Rattle.flat_machine.specs.Opening.{opening, needed}
use Rattle.group_open.specs.Laws.{IsAccepted}
use Rattle.group_open.proofs.OpeningLaws.{every_opening}
use Rattle.flat_machine.specs.Round.{counted}
use Rattle.round_core.specs.Invariants.{IsOf}
use Rattle.round_core.proofs.Allowed.{over_allows}
use Rattle.round_core.proofs.Buffers.{buffered-form}
use Rattle.round_core.proofs.KeepsBoth.{both_kept}
use Rattle.round_core.proofs.SameRun.{same_run_kept}
use Rattle.dos_laws.specs.Standing.{LawfulWith, IsFit, fit_protocol}
use Rattle.dos_laws.proofs.LawfulRounds.{at_rest}
use Rattle.dos_laws.proofs.Outside.{lawful-counted}
use Rattle.dos_laws.proofs.StandsBuffered.{stands-buffered}
use Rattle.dos_laws.proofs.StandsKeeps.{stands_kept}
use Rattle.dpg_run.specs.Laws.{LeavesFinish, RunOwes}
use Rattle.flat_machine.specs.Machine.{Finish, rounds_of, rounds_from}
use Rattle.dpg_run.proofs.RunKeeps.{rounds_keep}

-- a lawful world of a run, after so many rounds
module _ (q limit : ℕ) (most : limit ≤ 1000000) where
  abbrev LawfulAfter : ℕ → List ℕ → World → Type 0
  LawfulAfter n ts w = LawfulWith ts w × IsOf q n w

  owes : RunOwes fit_protocol limit LawfulAfter
  owes = record {
    round_kept = λ n.
        both_kept LawfulWith (λ ts w. IsOf q n w) fit_protocol stands_kept
        (same_run_kept q n fit_protocol (λ question output error. tt));
    buffered_kept = λ n ts w h. (
      stands-buffered ts w h.0,
      subst (λ (x : World). IsOf q n x) (sym (buffered-form w)) h.1,
    );
    may_ask = λ n m w k. tt;
    counted_kept = λ n w lt h.
        let rounds : w.rounds ≡ n = h.1.1 in (
          at_rest (counted w) (lawful-counted w (omega (arith, lt, most, rounds)) h.0.lawful),
          (h.1.0, ap (λ m. m + 1) rounds),
        );
  }

pub run_ends_lawful : (scheme : Scheme) (count : ℕ) (w : World) (work : ℕ)
    (answers rest : List Answer) (finish : Finish)
    → w.rounds + count ≤ 1000000 → Lawful w → All IsFit answers
    → over answers (rounds_of scheme count w work) ≡ gives finish rest
    → Lawful finish.world × (finish.world.rounds ≤ w.rounds + count)
run_ends_lawful scheme count w work answers rest finish few l fit is =
    let limit : ℕ = w.rounds + count in
    let left = over_allows fit_protocol
    (LeavesFinish limit (LawfulAfter w.quantum limit few)) answers
    (rounds_of scheme count w work) finish rest
    (rounds_keep fit_protocol limit (LawfulAfter w.quantum limit few)
    (owes w.quantum limit few) scheme count w.rounds w work (omega arith)
    (at_rest w l, (refl, refl))) fit is in
    let rounds : finish.world.rounds ≡ left.0 = left.2.1.1 in
    (left.2.0.lawful, omega (arith, rounds, left.1))

-- ---- from an opening

pub group_ends_lawful : (images : List Image) (config : Config)
    (answers rest : List Answer) (finish : Finish)
    → 1 ≤ length images → length images ≤ 8 → All IsAccepted images → IsConfig config
    → needed images ≤ config.frames
    → All IsFit answers → over answers (rounds_from (opening images config) config)
    ≡ gives finish rest
    → Lawful finish.world × (finish.world.rounds ≤ config.rounds)
group_ends_lawful images config answers rest finish some few accepted within fit all is =
    let w : World = opening images config in
    let l : Lawful w = every_opening images config some few accepted within fit in
    let limit = within.rounds.1 in
    let left = run_ends_lawful config.scheme (config.rounds - 0)
    w 0 answers rest finish (omega (arith, limit)) l all is in
    (left.0, omega (arith, left.1))
