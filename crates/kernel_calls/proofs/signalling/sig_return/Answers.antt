use Rattle.std.proofs.Common.{◌∙◌, refl, ap}
use Rattle.proc_table.specs.Tables.{Tables}
use Rattle.kernel_calls.proofs.Counted.{all_counted, counted-table}
use Rattle.kernel_calls.proofs.Signalled.{restored_counted}
use Rattle.kernel_calls.proofs.signalling.sig_return.Goals as goal

pub returns-then-not-restore-clause-counted : goal.returns-then-not-restore-clause-counted
returns-then-not-restore-clause-counted c =
    let left = restored_counted c.args.state.now.table c.restore.new.self
    c.args.asked.now.thread c.requires.asked.live c.restore.ensures.restores in
    counted-table c.args.state.now _ c.refuse_in_place.new.table
    c.requires.sound.counted refl
    (ap (λ (T : Tables). all_counted T.processes) c.refuse_in_place.ensures ∙ left.0)
    (ap (λ (T : Tables). T.room) c.refuse_in_place.ensures ∙ left.1)

pub returns-else-not-restore-clause-counted : goal.returns-else-not-restore-clause-counted
returns-else-not-restore-clause-counted c =
    let left = restored_counted c.args.state.now.table c.restore.new.self
    c.args.asked.now.thread c.requires.asked.live c.restore.ensures.restores in
    counted-table c.args.state.now _ c.restore.new.self
    c.requires.sound.counted refl left.0 left.1
