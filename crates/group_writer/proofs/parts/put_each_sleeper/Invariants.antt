use Rattle.std.proofs.Common.{◌≡◌, ◌++◌, drop, map}
use Rattle.text_fields.specs.Formats.{many}
use Rattle.group_text.specs.GroupText.{sleeper_row}
use Rattle.group_text.specs.Records.{sleeper_of_record}
use Rattle.group_writer.proofs.parts.put_each_sleeper.Given as goal

abbrev pub invariant-loop-i : goal.invariant-loop-i
invariant-loop-i l =
    l.out.items ++ (many 0 (sleeper_row 0 0)).text (map sleeper_of_record (drop l.i l.sleepers))
    ≡ l.fn.out.items ++ (many 0 (sleeper_row 0 0)).text (map sleeper_of_record l.sleepers)
