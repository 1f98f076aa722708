use Rattle.group_text.specs.Records.{process_of_record}
use Rattle.group_parts.proofs.Taken.{at_place, mapped_more}
use Rattle.group_parts.proofs.reading.record_processes.Goals as goal

pub loop-place-preserved : goal.loop-place-preserved
loop-place-preserved c = mapped_more process_of_record c.args.table.now.processes
    c.loop-place.place c.in_ok-record_process.field-0 c.loop-place.records.items
    c.in_ok-push.ensures.items c.loop-place.invariant
    (at_place c.args.table.now.processes c.loop-place.place c.in_ok-record_process.ensures)
