use Rattle.std.proofs.Common.{◌≡◌, ◌++◌, drop}
use Rattle.text_fields.specs.Formats.{many}
use Rattle.group_text.specs.GroupText.{page_row}
use Rattle.group_writer.proofs.processes.put_pages.Given as goal

abbrev pub invariant-loop-i : goal.invariant-loop-i
invariant-loop-i l =
    l.out.items ++ (many 0 (page_row 0 0)).text (drop l.i l.pages)
    ≡ l.fn.out.items ++ (many 0 (page_row 0 0)).text l.pages
