use Rattle.std.proofs.Common.{◌≡◌, ◌++◌, drop}
use Rattle.text_fields.specs.Formats.{many}
use Rattle.group_text.specs.GroupText.{descriptor_row}
use Rattle.group_writer.proofs.processes.put_descriptors.Given as goal

abbrev pub invariant-loop-i : goal.invariant-loop-i
invariant-loop-i l =
    l.out.items ++ (many 32 descriptor_row).text (drop l.i l.ends)
    ≡ l.fn.out.items ++ (many 32 descriptor_row).text l.ends
