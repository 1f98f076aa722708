use Rattle.std.proofs.Common.{◌≡◌, ◌++◌, drop, map}
use Rattle.text_fields.specs.Formats.{many}
use Rattle.group_text.specs.GroupText.{thread_row}
use Rattle.group_text.specs.Records.{thread_of_record}
use Rattle.group_writer.proofs.threads.put_each_thread.Given as goal

abbrev pub invariant-loop-i : goal.invariant-loop-i
invariant-loop-i l =
    l.out.items ++ (many 0 (thread_row 0 0 0)).text (map thread_of_record (drop l.i l.threads))
    ≡ l.fn.out.items ++ (many 0 (thread_row 0 0 0)).text (map thread_of_record l.threads)
