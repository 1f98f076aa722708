use Rattle.std.proofs.Common.{◌≡◌, map, take}
use Rattle.group_text.specs.Records.{process_of_record}
use Rattle.group_parts.proofs.reading.record_processes.Given as goal

abbrev pub invariant-loop-place : goal.invariant-loop-place
invariant-loop-place l = map process_of_record l.records.items ≡ take l.place l.table.processes
