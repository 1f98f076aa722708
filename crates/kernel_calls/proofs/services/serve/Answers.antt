use Rattle.std.proofs.Common.{sym, ap, ◌∙◌, subst}
use Rattle.dos_world.specs.Services.{charged, service}
use Rattle.proc_table.specs.Tables.{Tables, IsLiveThread}
use Rattle.kernel_calls.specs.Built.{definition_by}
use Rattle.kernel_calls.specs.StateWorld.{StandsButOwners}
use Rattle.kernel_calls.specs.Plays.{Answers, stopper}
use Rattle.kernel_calls.specs.CallResults.{AreAsked, call_in}
use Rattle.kernel_calls.specs.declared.state.State.{State}
use Rattle.kernel_calls.proofs.Changed.{lives_changed}
use Rattle.kernel_calls.proofs.Keeping.{sound-stands, stands-restored}
use Rattle.kernel_calls.proofs.Called.{calls_paid, stops_restored}
use Rattle.kernel_calls.proofs.ServicePlays.{answers_as}
use Rattle.kernel_calls.proofs.AfterService.{sound-served, parts-served}
use Rattle.kernel_calls.proofs.services.serve.Given as given
use Rattle.kernel_calls.proofs.services.serve.Goals as goal

pub dispatch-requires-clause-asked : goal.dispatch-requires-clause-asked
dispatch-requires-clause-asked g c =
    subst (λ (s : State). AreAsked s c.call_by-service.result.1) (sym c.charge.ensures.charges)
    c.call_by-service.ensures.asked

pub restore-requires : goal.restore-requires
restore-requires g c =
    subst (λ (T : Tables). IsLiveThread T.threads c.args.tid)
    (sym (c.in-Err.ensures.stands.table
    ∙ ap (λ (s : State). s.table) c.charge.ensures.charges))
    (lives_changed charged c.args.state.now.table.threads c.args.tid c.requires.live)

-- what was served
answers : (g : given.Over) (c : goal.In-Ok g)
    → Answers (λ w. service w c.args.tid) c.args.state.now (g.B.Border.state c.args.border.now)
    c.in-Ok.way c.dispatch.new.state (g.B.Border.state c.dispatch.new.border)
answers g c =
    answers_as (λ w. service w c.args.tid)
    (λ w. definition_by c.call_by-service.result.0 (call_in w c.call_by-service.result.1))
    c.args.state.now c.charge.new.state
    (calls_paid c.args.state.now c.charge.new.state c.args.tid c.call_by-service.result.0
    c.call_by-service.result.1 c.charge.ensures.charges c.call_by-service.ensures.calls)
    _ _ c.in-Ok.way c.dispatch.new.state c.in-Ok.ensures.plays.ends

pub returns-in-Ok-clause-plays : goal.returns-in-Ok-clause-plays
returns-in-Ok-clause-plays g c = record { ends = answers g c; stops = tt }

pub returns-in-Ok-clause-sound : goal.returns-in-Ok-clause-sound
returns-in-Ok-clause-sound g c =
    sound-served _ c.dispatch.new.state c.args.tid c.in-Ok.way _ _ (answers g c)
    c.requires.sound c.requires.ready c.in-Ok.ensures.counted

pub returns-in-Ok-clause-parts : goal.returns-in-Ok-clause-parts
returns-in-Ok-clause-parts g c =
    parts-served _ c.dispatch.new.state c.args.tid c.in-Ok.way _ _ (answers g c) c.requires.sound

-- after a stop
stands : (g : given.Over) (c : goal.After-restore g)
    → StandsButOwners c.args.state.now c.restore.new.state
stands g c =
    stands-restored c.args.state.now c.charge.new.state c.dispatch.new.state c.restore.new.state
    c.args.tid c.budget-budget.result c.regs-regs.result.now c.regs-regs.ensures
    c.budget-budget.ensures
    c.charge.ensures.charges c.in-Err.ensures.stands c.restore.ensures

pub returns-in-Err-clause-stands : goal.returns-in-Err-clause-stands
returns-in-Err-clause-stands g c = stands g c

pub returns-in-Err-clause-sound : goal.returns-in-Err-clause-sound
returns-in-Err-clause-sound g c =
    sound-stands c.args.state.now c.restore.new.state (stands g c)
    (ap (λ (s : State). s.round) c.restore.ensures ∙ c.dispatch.ensures.round.round
    ∙ ap (λ (s : State). s.round) c.charge.ensures.charges)
    c.requires.sound

pub returns-in-Err-clause-plays : goal.returns-in-Err-clause-plays
returns-in-Err-clause-plays g c = record {
  ends = tt;
  stops = stops_restored c.args.state.now c.charge.new.state c.args.tid
      c.call_by-service.result.0 c.call_by-service.result.1 c.charge.ensures.charges
      c.call_by-service.ensures.calls c.dispatch.new.state c.restore.new.state _
      c.restore.ensures _ _ (stopper c.in-Err.stop) c.in-Err.ensures.plays.stops;
}
