-- What every change of a round keeps, and a round more, a run keeps, after as many rounds as it
-- ran.
use Rattle.std.proofs.Common.{ℕ, zero, suc, ◌+◌, sym, subst, [], arith}
use Rattle.dos_world.specs.World.{World}
use Rattle.dos_world.specs.Play.{Play, done}
use Rattle.dos_world.specs.declared.Ending.TheVariants.{Done, Stalled}
use Rattle.dos_world.specs.declared.Scheme.{Scheme}
use Rattle.round_core.specs.Protocol.{Protocol, Allows}
use Rattle.round_core.specs.Invariants.{Holds, LeavesEnd}
use Rattle.flat_machine.specs.Round.{RoundEnd, went, finished, stalled, round_of}
use Rattle.round_core.proofs.Allowed.{then_allows}
use Rattle.round_core.proofs.Keeps.{round_keeps}
use Rattle.dpg_run.specs.Laws.{LeavesFinish, RunIsKept, RunOwes}
use Rattle.flat_machine.specs.Machine.{Finish, rounds_of}

-- how the run goes on after a round
abbrev pub goes_on : Scheme → ℕ → ℕ → RoundEnd → Play Finish
goes_on scheme count work e = elim e as (λ _. Play Finish) [
  | went next more ↦ rounds_of scheme count next (work + more)
  | finished last ↦ done (record { ending = Done; world = last; work = work })
  | stalled last ↦ done (record { ending = Stalled; world = last; work = work })
]

module _ (protocol : Protocol) (limit : ℕ) (I : ℕ → Holds) (owes : RunOwes protocol limit I) where
  -- what a run leaves
  abbrev Leaves : Finish → Type 0
  Leaves finish = LeavesFinish limit I finish

  pub rounds_keep : RunIsKept protocol limit I
  rounds_keep scheme zero n w work few h = (n, omega (arith, few), h)
  rounds_keep scheme (suc count) n w work few h =
      then_allows protocol (LeavesEnd (I n [])) Leaves (round_of scheme w)
      (goes_on scheme count work)
      (round_keeps protocol (I n) (owes.round_kept n) (owes.buffered_kept n) scheme w
      (owes.may_ask n (w.rounds + 1) w h) h)
      (by_end (λ next ran. rounds_keep scheme count (n + 1) next ran (omega (arith, few))))
    where
      by_end : ((next : World) (ran : ℕ) → I (n + 1) [] next
          → Allows protocol Leaves (rounds_of scheme count next ran))
          → (e : RoundEnd) → LeavesEnd (I n []) e
          → Allows protocol Leaves (goes_on scheme count work e)
      by_end rest (went next ran) h =
          rest next (work + ran)
          (subst (I (n + 1) []) (sym h.1)
          (owes.counted_kept n h.0 (omega (arith, few)) h.2))
      by_end rest (finished last) h = (n, omega (arith, few), h)
      by_end rest (stalled last) h = (n, omega (arith, few), h)
