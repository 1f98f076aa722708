use Rattle.std.proofs.Common.{Bool, cond, refl, sym, ap, ◌∙◌}
use Rattle.dos_world.specs.World.{World, action_of, registers_by, with_holdings, with_registers}
use Rattle.dos_world.specs.Kernel.{answered}
use Rattle.dos_world.specs.Play.{done}
use Rattle.dos_world.specs.Services.{went, refuses, returns_in}
use Rattle.dos_world.specs.SignalCalls.{with_action}
use Rattle.proc_table.specs.Tables.{Tables, held_in, thread_by}
use Rattle.kernel_calls.specs.StateWorld.{sent, world_of}
use Rattle.kernel_calls.specs.CallResults.{call_in}
use Rattle.kernel_calls.specs.declared.state.State.{State}
use Rattle.kernel_calls.specs.declared.state.Asked.{Asked}
use Rattle.kernel_calls.proofs.Counted.{all_counted, all_counted-changed, counted-table}
use Rattle.kernel_calls.proofs.Keeping.{process_alive}
use Rattle.kernel_calls.proofs.Signalled.{action_is}
use Rattle.kernel_calls.proofs.signalling.sig_handler.Goals as goal

pub returns-clause-goes_on : goal.returns-clause-goes_on
returns-clause-goes_on c = λ q o e.
    let w : World = sent o e (world_of q c.args.state.now) in
    let a : Asked = c.args.asked.now in
    let set : World = with_holdings w a.process (with_action a.a0 a.a1) in
    ap (λ (b : Bool). cond b (refuses 22 (call_in w a))
    (returns_in set (action_of w a.process a.a0) (call_in w a)))
    (sym c.is_fixed.ensures ∙ c.if-is_fixed.false)
    ∙ ap (λ v. done (went (with_registers set a.thread (answered v))))
    (action_is (held_in c.args.state.now.table.processes a.process) a.a0
    c.action-former.result
    (process_alive c.args.state.now c.requires.sound a.thread a.process c.requires.asked.live
    c.requires.asked.process)
    c.action-former.ensures)
    ∙ ap (λ (T : Tables). done (went (sent o e (world_of q (record c.args.state.now {
      table = thread_by (registers_by (answered c.action-former.result)) T a.thread;
    }))))) (sym c.set_action.ensures)
    ∙ ap (λ (s : State). done (went (sent o e (world_of q s)))) (sym c.reply.ensures.answers)

pub returns-clause-counted : goal.returns-clause-counted
returns-clause-counted c = counted-table c.args.state.now c.reply.new.state _
    c.requires.sound.counted c.reply.ensures.answers
    (ap (λ (T : Tables). all_counted T.processes) c.set_action.ensures
    ∙ all_counted-changed (with_action c.args.asked.now.a0 c.args.asked.now.a1) (λ h. refl)
    c.args.state.now.table.processes c.args.asked.now.process)
    (ap (λ (T : Tables). T.room) c.set_action.ensures)
