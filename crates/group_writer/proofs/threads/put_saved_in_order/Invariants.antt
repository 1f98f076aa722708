use Rattle.std.proofs.Common.{◌≡◌, ◌++◌, drop, reverse}
use Rattle.text_fields.specs.Formats.{many}
use Rattle.group_text.specs.GroupText.{saved_row}
use Rattle.group_writer.proofs.threads.put_saved_in_order.Given as goal

abbrev pub invariant-loop-i : goal.invariant-loop-i
invariant-loop-i l =
    l.out.items ++ (many 0 saved_row).text (drop l.i (reverse l.saved))
    ≡ l.fn.out.items ++ (many 0 saved_row).text (reverse l.saved)
