use Rattle.std.proofs.Common.{◌≡◌, ◌+◌, sym, ap, ◌∙◌, []}
use Rattle.dos_world.specs.Kernel.{process_ended}
use Rattle.dos_world.specs.Signals.{cleared}
use Rattle.proc_table.specs.Tables.{thread_in}
use Rattle.kernel_calls.specs.StateWorld.{sent, world_of}
use Rattle.group_rounds.proofs.ThreadRunLaws.{some_of, of_some}
use Rattle.group_rounds.proofs.SignalLaws.{thread_counted, if_some, ends_by_default}
use Rattle.group_rounds.proofs.TurnLaws.{fault_count}
use Rattle.group_rounds.proofs.signals.act_by_default.Goals as goal

pub returns-then-signal-eq17-clause-counted : goal.returns-then-signal-eq17-clause-counted
returns-then-signal-eq17-clause-counted c =
    thread_counted c.args.state.now c.args.state.now.futexes c.clear_signal.new.self c.args.tid
    (cleared c.args.signal) c.clear_signal.ensures
    c.requires.sound.counted

pub returns-clause-acts : goal.returns-clause-acts
returns-clause-acts c =
    let found = some_of (thread_in c.args.state.now.table.threads c.args.tid) c.requires.live in
    if_some (thread_in c.args.state.now.table.threads c.args.tid) found.0 found.1 _
    (λ q o e.
    ends_by_default (sent o e (world_of q c.args.state.now)) c.args.tid found.0 c.args.signal
    c.if-signal-eq17.false
    ∙ ap (λ p. process_ended (sent o e (world_of q c.args.state.now)) p (128 + c.args.signal))
    (sym (of_some (λ thread. c.process_of-pid.result ≡ thread.process)
    (thread_in c.args.state.now.table.threads c.args.tid) found.0 found.1
    c.process_of-pid.ensures))
    ∙ c.end_process.ensures.ends q o e)

pub returns-clause-count : goal.returns-clause-count
returns-clause-count c = fault_count c.args.state.now c.end_process.new.state
    c.process_of-pid.result (128 + c.args.signal) (c.end_process.ensures.ends 0 [] [])
