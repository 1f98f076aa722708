use Rattle.std.proofs.Common.{◌≡◌, ap, ◌∙◌}
use Rattle.dos_world.specs.World.{registers_by, released}
use Rattle.proc_table.specs.Tables.{thread_in}
use Rattle.group_rounds.proofs.ThreadRunLaws.{some_of, of_some, same_change}
use Rattle.group_rounds.proofs.part.empty_reservation.Goals as goal

pub returns : goal.returns
returns c =
    let found = some_of (thread_in c.args.table.now.threads c.args.tid) c.requires.live in
    let read : c.regs.result.now ≡ found.0.registers =
    of_some (λ thread. c.regs.result.now ≡ thread.registers)
    (thread_in c.args.table.now.threads c.args.tid) found.0 found.1 c.regs.ensures in
    c.set_regs.ensures
    ∙ ap (λ threads. record c.args.table.now { threads = threads })
    (same_change (registers_by (λ _. c.set_held.new.self))
    (registers_by released) c.args.table.now.threads c.args.tid found.0 found.1
    (ap (λ r. record found.0 { registers = r }) (c.set_held.ensures ∙ ap released read)))
