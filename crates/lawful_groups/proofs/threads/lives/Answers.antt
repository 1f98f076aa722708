use Rattle.std.proofs.Common.{sym, ap, ◌∙◌, arith, Some, None, not}
use Rattle.proc_table.proofs.Moved.{beyond, number_read}
use Rattle.lawful_groups.proofs.ProcessLaws.{lives_by, lives_one, not_twice}
use Rattle.lawful_groups.proofs.threads.lives.Goals as goal

pub returns-in-Some : goal.returns-in-Some
returns-in-Some c =
    let at = c.in-Some.ensures.lookup in
    not_twice c.is_none.result ∙ ap not (sym c.is_none.ensures)
    ∙ sym (lives_by c.args.processes.now c.args.pid
    (Some c.in-Some.process.now)
    (number_read c.args.processes.now c.args.pid c.in-Some.process.now
    (omega (arith, c.if-pid-eq0.false)) (omega (arith, at.3.0, c.if-pid-eq0.false)) at.1)
    ∙ lives_one c.in-Some.process.now)

pub returns-in-None : goal.returns-in-None
returns-in-None c = sym (lives_by c.args.processes.now c.args.pid None
    (beyond c.args.processes.now c.args.pid
    (omega (arith, c.in-None.ensures.lookup.3, c.if-pid-eq0.false))))
