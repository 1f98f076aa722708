-- A run has no more rounds than its configuration allows.
use Rattle.std.proofs.Common.{ℕ, ◌+◌, ◌-◌, ◌≤◌, ◌≡◌, refl, sym, ap, subst, List}
use Rattle.std.proofs.Common.{arith}
use Rattle.dos_world.specs.World.{World}
use Rattle.dos_world.specs.Play.{Answer, Outcome, gives, asks, over}
use Rattle.dos_world.specs.declared.Config.{Config}
use Rattle.dos_world.specs.declared.Question.{Question}
use Rattle.round_core.specs.Protocol.{any_protocol}
use Rattle.round_core.specs.Invariants.{IsOf}
use Rattle.round_core.proofs.Allowed.{over_allows}
use Rattle.round_core.proofs.Buffers.{buffered-form}
use Rattle.round_core.proofs.SameRun.{same_run_kept}
use Rattle.elf_image.specs.Image.{Image}
use Rattle.flat_machine.specs.Opening.{opening}
use Rattle.flat_machine.specs.Machine.{Finish, Seen, ends, needs, result_of, rounds_from, machine}
use Rattle.dpg_run.specs.Laws.{LeavesFinish, RunOwes}
use Rattle.dpg_run.proofs.RunKeeps.{rounds_keep}
use Rattle.dpg_run.proofs.Asked.{seen_is}

-- what is seen is of the finish that the rounds give
seen_within : (limit : ℕ) (asked : List Question) (o : Outcome Finish) (s : Seen)
    → ((finish : Finish) (rest : List Answer) → o ≡ gives finish rest → finish.world.rounds ≤ limit)
    → result_of asked o ≡ ends s → s.rounds ≤ limit
seen_within limit asked (gives finish rest) s within is =
    subst (λ seen. seen.rounds ≤ limit) (seen_is is) (within finish rest refl)
seen_within limit asked (asks question output error) s within is = absurd (needs≢ends is)
  where
    needs≢ends : needs question output error ≡ ends s → ⊥
    needs≢ends e = cc

-- the count of rounds, as an invariant
module _ (q limit : ℕ) where
  abbrev CountIs : ℕ → List ℕ → World → Type 0
  CountIs n ts w = IsOf q n w

  owes : RunOwes any_protocol limit CountIs
  owes = record {
    round_kept = λ n. same_run_kept q n any_protocol (λ question output error. tt);
    buffered_kept = λ n ts w k. subst (λ (x : World). IsOf q n x) (sym (buffered-form w)) k;
    may_ask = λ n m w k. tt;
    counted_kept = λ n w lt k. (k.0, ap (λ rounds. rounds + 1) k.1);
  }

pub machine_within : (images : List Image) (config : Config) (answers : List Answer) (s : Seen)
    → machine images config answers ≡ ends s → s.rounds ≤ config.rounds
machine_within images config answers s is =
    seen_within config.rounds _ (over answers (rounds_from w config)) s within is
  where
    w : World
    w = opening images config

    within : (finish : Finish) (rest : List Answer)
        → over answers (rounds_from w config) ≡ gives finish rest
        → finish.world.rounds ≤ config.rounds
    within finish rest gave =
        let left = over_allows any_protocol
        (LeavesFinish config.rounds (CountIs w.quantum config.rounds)) answers
        (rounds_from w config) finish rest
        (rounds_keep any_protocol config.rounds (CountIs w.quantum config.rounds)
        (owes w.quantum config.rounds) config.scheme (config.rounds - 0) 0 w 0 (omega arith)
        (refl, refl)) (λ k d lt. tt) gave in
        let rounds : finish.world.rounds ≡ left.0 = left.2.1 in
        omega (arith, rounds, left.1)
