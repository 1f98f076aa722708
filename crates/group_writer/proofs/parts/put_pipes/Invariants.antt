use Rattle.std.proofs.Common.{◌≡◌, ◌++◌, drop, map}
use Rattle.text_fields.specs.Formats.{many}
use Rattle.group_text.specs.GroupText.{pipe_row}
use Rattle.group_writer.proofs.parts.put_pipes.Given as goal

abbrev pub invariant-loop-i : goal.invariant-loop-i
invariant-loop-i l =
    l.out.items ++ (many 64 pipe_row).text (map (λ p. p.items) (drop l.i l.pipes))
    ≡ l.fn.out.items ++ (many 64 pipe_row).text (map (λ p. p.items) l.pipes)
