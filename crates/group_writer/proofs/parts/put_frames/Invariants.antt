use Rattle.std.proofs.Common.{◌≡◌, ◌++◌, drop, map}
use Rattle.text_fields.specs.Formats.{many}
use Rattle.group_text.specs.GroupText.{frame_row}
use Rattle.group_text.specs.Records.{frame_of_record}
use Rattle.group_writer.proofs.parts.put_frames.Given as goal

abbrev pub invariant-loop-i : goal.invariant-loop-i
invariant-loop-i l =
    l.out.items ++ (many 0 (frame_row 0)).text (map frame_of_record (drop l.i l.frames))
    ≡ l.fn.out.items ++ (many 0 (frame_row 0)).text (map frame_of_record l.frames)
