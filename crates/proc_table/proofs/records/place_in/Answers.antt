use Rattle.std.proofs.Common.{option_and_then, sym, ap, ◌∙◌, arith}
use Rattle.proc_table.specs.Places.{place_in, place_kept, place_of_record}
use Rattle.proc_table.proofs.Moved.{beyond, number_read}
use Rattle.proc_table.proofs.records.place_in.Goals as goal

pub returns-then-pid-eq0 : goal.returns-then-pid-eq0
returns-then-pid-eq0 c = sym (ap (place_in c.args.records.now) c.if-pid-eq0.true)

pub returns-in-Live : goal.returns-in-Live
returns-in-Live c =
    let at = c.in-Some.ensures.lookup in
    sym (ap (option_and_then place_of_record) (number_read c.args.records.now c.args.pid
    c.in-Some.record.now (omega (arith, c.if-pid-eq0.false))
    (omega (arith, at.3.0, c.if-pid-eq0.false)) at.1)
    ∙ ap place_kept c.in-Live.is)

pub returns-in-Ended : goal.returns-in-Ended
returns-in-Ended c =
    let at = c.in-Some.ensures.lookup in
    sym (ap (option_and_then place_of_record) (number_read c.args.records.now c.args.pid
    c.in-Some.record.now (omega (arith, c.if-pid-eq0.false))
    (omega (arith, at.3.0, c.if-pid-eq0.false)) at.1)
    ∙ ap place_kept c.in-Ended.is)

pub returns-in-None : goal.returns-in-None
returns-in-None c = sym (ap (option_and_then place_of_record)
    (beyond c.args.records.now c.args.pid
    (omega (arith, c.in-None.ensures.lookup.3, c.if-pid-eq0.false))))
