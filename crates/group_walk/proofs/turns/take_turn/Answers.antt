use Rattle.std.proofs.Common.{ℕ, ◌<◌, [], ◌∷◌, sym, ap, ◌∙◌, subst, Option, None, Some}
use Rattle.std.specs.Prelude.{IfSome}
use Rattle.dos_world.specs.World.{Thread}
use Rattle.round_core.proofs.Faults.{step-small}
use Rattle.proc_table.specs.Tables.{IsLiveThread, Tables, thread_in}
use Rattle.kernel_calls.specs.StateWorld.{world_of}
use Rattle.group_rounds.specs.Parts.{budget_in}
use Rattle.group_rounds.proofs.TurnLaws.{on_lives, served_count}
use Rattle.group_walk.proofs.Turned.{stops_by}
use Rattle.group_walk.proofs.TurnPlays.{plays_fault, plays_service, plays_step, plays_stop}
use Rattle.group_walk.proofs.TurnPlays.{served_turn}
use Rattle.group_walk.proofs.turns.take_turn.Goals as goal

pub step_once-requires-clause-budget : goal.step_once-requires-clause-budget
step_once-requires-clause-budget g c =
    subst (λ (T : Tables). 0 < budget_in (record c.settle.new.state { table = T }) c.args.tid)
    (sym c.settle.ensures.table) c.requires.budget

pub end_by_fault-requires-clause-small : goal.end_by_fault-requires-clause-small
end_by_fault-requires-clause-small g c =
    step-small (world_of 0 c.settle.new.state) c.args.tid c.in-Some-Fault.number
    (stops_by (world_of 0 c.settle.new.state) c.args.tid _
    (c.settle.ensures.why 0 [] [] ∙ c.in-Some-Fault.is ∙ ap Some c.in-Some-Fault.field-0-is))

pub serve-requires-clause-budget : goal.serve-requires-clause-budget
serve-requires-clause-budget g c =
    go (thread_in c.settle.new.state.table.threads c.args.tid)
    (subst (λ (T : Tables). 0 < budget_in (record c.settle.new.state { table = T }) c.args.tid)
    (sym c.settle.ensures.table) c.requires.budget)
  where
    go : (o : Option Thread) → 0 < (elim o as (λ _. ℕ) [ None ↦ 0 | Some thread ↦ thread.budget ])
        → IfSome o (λ thread. 0 < thread.budget)
    go None h = tt
    go (Some thread) h = h

pub returns-in-None-clause-plays : goal.returns-in-None-clause-plays
returns-in-None-clause-plays g c = λ q. record {
  goes = plays_step c.args.state.now c.settle.new.state c.args.tid c.settle.ensures.settles
      c.step_once.new.state c.step_once.ensures.steps q (g.B.Border.state c.args.border.now);
  stops = tt;
}

pub returns-in-None-clause-parts : goal.returns-in-None-clause-parts
returns-in-None-clause-parts g c = λ ts parts.
    c.step_once.ensures.parts (c.args.tid ∷ ts) (c.settle.ensures.parts (c.args.tid ∷ ts) parts)

pub returns-in-Some-Page-clause-plays : goal.returns-in-Some-Page-clause-plays
returns-in-Some-Page-clause-plays g c = λ q. record {
  goes = plays_stop c.args.state.now c.settle.new.state c.args.tid c.settle.ensures.settles
      c.in-Some-Page.field-0-0 c.in-Some-Page.field-0-1
      (λ q o e. c.settle.ensures.why q o e ∙ c.in-Some-Page.is ∙ ap Some c.in-Some-Page.field-0-is)
      q (g.B.Border.state c.args.border.now);
  stops = tt;
}

pub returns-in-Some-Fault-clause-plays : goal.returns-in-Some-Fault-clause-plays
returns-in-Some-Fault-clause-plays g c = λ q. record {
  goes = plays_fault c.args.state.now c.settle.new.state c.args.tid c.settle.ensures.settles
      c.in-Some-Fault.number c.end_by_fault.new.state
      (λ q o e. c.settle.ensures.why q o e ∙ c.in-Some-Fault.is
      ∙ ap Some c.in-Some-Fault.field-0-is)
      c.end_by_fault.ensures.ends q (g.B.Border.state c.args.border.now);
  stops = tt;
}

pub returns-in-Ok-clause-plays : goal.returns-in-Ok-clause-plays
returns-in-Ok-clause-plays g c = λ q. record {
  goes = rw c.goes_on_after.ensures
      (served_turn q _ c.args.state.now c.serve.new.state _ _ c.in-Ok.way
      (plays_service c.args.state.now c.settle.new.state c.args.tid c.settle.ensures.settles
      c.serve.new.state _ _ _
      (λ q o e. c.settle.ensures.why q o e ∙ c.in-Some-Service.is
      ∙ ap Some c.in-Some-Service.field-0-is) c.in-Ok.ensures.plays q).goes);
  stops = tt;
}

pub returns-in-Ok-clause-live : goal.returns-in-Ok-clause-live
returns-in-Ok-clause-live g c = λ on.
    on_lives c.settle.new.state c.serve.new.state c.args.tid
    (subst (λ (T : Tables). IsLiveThread T.threads c.args.tid) (sym c.settle.ensures.table)
    c.requires.live) _ _ c.in-Ok.way c.in-Ok.ensures.plays.ends
    (sym c.goes_on_after.ensures ∙ on)

pub returns-in-Ok-clause-count : goal.returns-in-Ok-clause-count
returns-in-Ok-clause-count g c =
    served_count c.settle.new.state c.serve.new.state c.args.tid
    (subst (λ (T : Tables). IsLiveThread T.threads c.args.tid) (sym c.settle.ensures.table)
    c.requires.live) _ _ c.in-Ok.way c.in-Ok.ensures.plays.ends ∙ c.settle.ensures.count

pub returns-in-Err-clause-plays : goal.returns-in-Err-clause-plays
returns-in-Err-clause-plays g c = λ q. record {
  goes = tt;
  stops = (plays_service c.args.state.now c.settle.new.state c.args.tid c.settle.ensures.settles
      c.serve.new.state _ _ _
      (λ q o e. c.settle.ensures.why q o e ∙ c.in-Some-Service.is
      ∙ ap Some c.in-Some-Service.field-0-is) c.in-Err.ensures.plays q).stops;
}
