use Rattle.dos_world.specs.Signals.{handling}
use Rattle.group_rounds.proofs.SignalLaws.{thread_counted}
use Rattle.group_rounds.proofs.signals.act_by_handler.Goals as goal

pub returns-clause-counted : goal.returns-clause-counted
returns-clause-counted c =
    thread_counted c.interrupt.new.state c.interrupt.new.state.futexes c.begin_handler.new.self
    c.args.tid (handling c.args.signal c.args.handler) c.begin_handler.ensures
    (c.interrupt.ensures.counted c.requires.counted)
