use Rattle.std.proofs.Common.{◌∙◌, sym}
use Rattle.dos_world.specs.Signals.{cleared}
use Rattle.proc_table.specs.Tables.{thread_in}
use Rattle.kernel_calls.specs.StateWorld.{sent, world_of}
use Rattle.group_rounds.proofs.ThreadRunLaws.{of_some}
use Rattle.group_rounds.proofs.SignalLaws.{has_action, delivered_default, delivered_dropped}
use Rattle.group_rounds.proofs.SignalLaws.{delivered_handled, if_some, thread_counted, thread_world}
use Rattle.group_rounds.proofs.signals.deliver.Goals as goal

pub returns-then-is_default-clause-delivers : goal.returns-then-is_default-clause-delivers
returns-then-is_default-clause-delivers c =
    let here = has_action c.args.state.now c.requires.sound c.args.tid c.process_of-pid.result
    c.args.signal c.action-action.result c.requires.live c.process_of-pid.ensures
    c.action-action.ensures in
    if_some (thread_in c.args.state.now.table.threads c.args.tid) here.thread here.is _
    (λ q o e.
    delivered_default (sent o e (world_of q c.args.state.now)) c.args.tid here.thread
    c.args.signal c.action-action.result (here.read q o e)
    (sym c.is_default.ensures ∙ c.if-is_default.true)
    ∙ of_some _ (thread_in c.args.state.now.table.threads c.args.tid) here.thread here.is
    c.act_by_default.ensures.acts q o e)

pub returns-then-action-eq1-clause-delivers : goal.returns-then-action-eq1-clause-delivers
returns-then-action-eq1-clause-delivers c =
    let here = has_action c.args.state.now c.requires.sound c.args.tid c.process_of-pid.result
    c.args.signal c.action-action.result c.requires.live c.process_of-pid.ensures
    c.action-action.ensures in
    if_some (thread_in c.args.state.now.table.threads c.args.tid) here.thread here.is _
    (λ q o e.
    delivered_dropped (sent o e (world_of q c.args.state.now)) c.args.tid here.thread
    c.args.signal c.action-action.result (here.read q o e)
    (sym c.is_default.ensures ∙ c.if-is_default.false) c.if-action-eq1.true
    ∙ thread_world c.args.state.now c.clear_signal.new.self c.args.tid (cleared c.args.signal)
    c.clear_signal.ensures q o e)

pub returns-then-action-eq1-clause-counted : goal.returns-then-action-eq1-clause-counted
returns-then-action-eq1-clause-counted c =
    thread_counted c.args.state.now c.args.state.now.futexes c.clear_signal.new.self c.args.tid
    (cleared c.args.signal) c.clear_signal.ensures
    c.requires.sound.counted

pub returns-else-action-eq1-clause-delivers : goal.returns-else-action-eq1-clause-delivers
returns-else-action-eq1-clause-delivers c =
    let here = has_action c.args.state.now c.requires.sound c.args.tid c.process_of-pid.result
    c.args.signal c.action-action.result c.requires.live c.process_of-pid.ensures
    c.action-action.ensures in
    if_some (thread_in c.args.state.now.table.threads c.args.tid) here.thread here.is _
    (λ q o e.
    delivered_handled (sent o e (world_of q c.args.state.now)) c.args.tid here.thread
    c.args.signal c.action-action.result (here.read q o e)
    (sym c.is_default.ensures ∙ c.if-is_default.false) c.if-action-eq1.false
    ∙ of_some _ (thread_in c.args.state.now.table.threads c.args.tid) here.thread here.is
    c.act_by_handler.ensures.acts q o e)
