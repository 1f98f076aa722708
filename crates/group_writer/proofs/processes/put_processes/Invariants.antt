use Rattle.std.proofs.Common.{◌≡◌, ◌++◌, drop, map}
use Rattle.text_fields.specs.Formats.{many}
use Rattle.group_text.specs.GroupText.{process_row}
use Rattle.group_text.specs.Records.{process_of_record}
use Rattle.group_writer.proofs.processes.put_processes.Given as goal

abbrev pub invariant-loop-i : goal.invariant-loop-i
invariant-loop-i l =
    l.out.items ++ (many 0 (process_row 0 0)).text (map process_of_record (drop l.i l.processes))
    ≡ l.fn.out.items ++ (many 0 (process_row 0 0)).text (map process_of_record l.processes)
