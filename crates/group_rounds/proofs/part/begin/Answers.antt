use Rattle.std.proofs.Common.{[], ◌≡◌, ℕ, refl, sym, ap, ◌∙◌, subst, Option, None, Some, option_map}
use Rattle.dos_world.specs.World.{Thread, registers_by, released}
use Rattle.dos_laws.specs.Standing.{LawfulWith}
use Rattle.dos_laws.proofs.StandsKeeps.{stands_kept}
use Rattle.proc_table.specs.Tables.{Tables, thread_in, IsLiveThread}
use Rattle.kernel_calls.specs.StateWorld.{world_of}
use Rattle.kernel_calls.specs.declared.state.State.{State}
use Rattle.group_rounds.specs.Parts.{budget_in}
use Rattle.group_rounds.proofs.ThreadRunLaws.{thread_in-by}
use Rattle.group_rounds.proofs.Sound.{sound_then, parts_then, lives_by}
use Rattle.group_rounds.proofs.SignalLaws.{thread_counted}
use Rattle.group_rounds.proofs.part.begin.Goals as goal

-- the budget of a thread whose registers change
budget_stays : (o : Option Thread)
    → (elim (option_map (registers_by released) o) as (λ _. ℕ) [
      | None ↦ 0
      | Some thread ↦ thread.budget
    ])
    ≡ elim o as (λ _. ℕ) [ None ↦ 0 | Some thread ↦ thread.budget ]
budget_stays None = refl
budget_stays (Some thread) = refl

pub returns-clause-budget : goal.returns-clause-budget
returns-clause-budget c =
    let s : State = c.args.state.now in
    ap (λ (table : Tables). budget_in (record s { table = table }) c.args.tid)
    c.empty_reservation.ensures
    ∙ ap (λ o. elim o as (λ _. ℕ) [ None ↦ 0 | Some thread ↦ thread.budget ])
    (thread_in-by (registers_by released) s.table.threads c.args.tid)
    ∙ budget_stays (thread_in s.table.threads c.args.tid)

pub returns-clause-sound : goal.returns-clause-sound
returns-clause-sound c =
    sound_then c.args.state.now
    (record c.args.state.now { table = c.empty_reservation.new.table }) c.requires.sound
    (thread_counted c.args.state.now c.args.state.now.futexes c.empty_reservation.new.table
    c.args.tid (registers_by released) c.empty_reservation.ensures c.requires.sound.counted)
    (λ q k. subst (λ (T : Tables). LawfulWith []
    (world_of q (record c.args.state.now { table = T }))) (sym c.empty_reservation.ensures)
    (stands_kept.emptied_kept [] (world_of q c.args.state.now) c.args.tid k))

pub returns-clause-parts : goal.returns-clause-parts
returns-clause-parts c = λ ts.
    parts_then c.args.state.now
    (record c.args.state.now { table = c.empty_reservation.new.table }) ts ts c.requires.sound
    (λ k. subst (λ (T : Tables). LawfulWith ts
    (world_of 16 (record c.args.state.now { table = T }))) (sym c.empty_reservation.ensures)
    (stands_kept.emptied_kept ts (world_of 16 c.args.state.now) c.args.tid k))

pub returns-clause-live : goal.returns-clause-live
returns-clause-live c =
    subst (λ (table : Tables). IsLiveThread table.threads c.args.tid)
    (sym c.empty_reservation.ensures)
    (lives_by (registers_by released) c.args.state.now.table.threads c.args.tid c.args.tid
    c.requires.live)
