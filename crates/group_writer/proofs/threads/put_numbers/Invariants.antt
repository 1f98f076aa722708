use Rattle.std.proofs.Common.{◌≡◌, ◌≤◌, ◌++◌, drop}
use Rattle.text_fields.specs.Formats.{many, u32_in, any}
use Rattle.group_writer.proofs.threads.put_numbers.Given as goal

abbrev pub invariant-loop-index : goal.invariant-loop-index
invariant-loop-index l =
    (l.out.items ++ (many 31 (u32_in any)).text (drop l.index l.regs.numbers)
    ≡ l.fn.out.items ++ (many 31 (u32_in any)).text (drop 1 l.regs.numbers)) × (1 ≤ l.index)
