use Rattle.std.proofs.Common.{sym, subst}
use Rattle.dos_world.specs.Kernel.{awake}
use Rattle.proc_table.specs.Tables.{Tables, IsLiveThread}
use Rattle.group_rounds.proofs.Sound.{lives_by}
use Rattle.group_rounds.proofs.SignalLaws.{thread_counted, room_awake}
use Rattle.group_rounds.proofs.signals.interrupt.Goals as goal

pub returns-clause-room : goal.returns-clause-room
returns-clause-room c = room_awake c.args.state.now.table c.wake.new.self c.args.tid _
    c.wake.ensures

pub returns-clause-live : goal.returns-clause-live
returns-clause-live c =
    subst (λ (T : Tables). IsLiveThread T.threads c.args.tid) (sym c.wake.ensures)
    (lives_by (awake _) c.args.state.now.table.threads c.args.tid c.args.tid c.requires.live)

pub returns-clause-counted : goal.returns-clause-counted
returns-clause-counted c =
    thread_counted c.args.state.now c.remove.new.self c.wake.new.self c.args.tid (awake _)
    c.wake.ensures
