use Rattle.std.proofs.Common.{sym, ◌≡◌, ◌∙◌}
use Rattle.dos_world.specs.Signals.{chosen}
use Rattle.proc_table.specs.Tables.{thread_in}
use Rattle.group_rounds.proofs.ThreadRunLaws.{some_of, of_some}
use Rattle.group_rounds.proofs.SignalLaws.{chosen_signal, turn_sound, turn_world}
use Rattle.group_rounds.proofs.signals.take_signal.Goals as goal

-- the signal is the one that the thread chooses
pub deliver-requires-clause-signal : goal.deliver-requires-clause-signal
deliver-requires-clause-signal c =
    let found = some_of (thread_in c.args.state.now.table.threads c.args.tid)
    (sym c.is_thread.ensures ∙ c.if-not-is_thread.false) in
    chosen_signal found.0 c.in-Some.signal
    (sym (of_some (λ thread. c.first_signal.result ≡ chosen thread)
    (thread_in c.args.state.now.table.threads c.args.tid) found.0 found.1
    c.first_signal.ensures) ∙ c.in-Some.is)

pub returns-in-Some-clause-sound : goal.returns-in-Some-clause-sound
returns-in-Some-clause-sound c =
    let found = some_of (thread_in c.args.state.now.table.threads c.args.tid)
    (sym c.is_thread.ensures ∙ c.if-not-is_thread.false) in
    turn_sound c.args.tid c.args.state.now c.deliver.new.state
    (turn_world c.args.state.now c.deliver.new.state c.args.tid found.0 c.in-Some.signal found.1
    (sym (of_some (λ thread. c.first_signal.result ≡ chosen thread)
    (thread_in c.args.state.now.table.threads c.args.tid) found.0 found.1
    c.first_signal.ensures) ∙ c.in-Some.is)
    (of_some _ (thread_in c.args.state.now.table.threads c.args.tid) found.0 found.1
    c.deliver.ensures.delivers))
    c.requires.sound c.deliver.ensures.counted
