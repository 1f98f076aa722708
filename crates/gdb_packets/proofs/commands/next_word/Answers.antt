use Rattle.std.proofs.Common.{sym, ◌∙◌, arith}
use Rattle.gdb_packets.proofs.Parts.{last_word, nonzero}
use Rattle.gdb_packets.proofs.commands.next_word.Goals as goal

pub returns : goal.returns
returns c =
    sym c.loop-part.invariant
    ∙ last_word _ c.split_at.result.1.now c.in_default.ensures
    (nonzero _ (sym c.is_empty-2.ensures ∙ c.if-is_empty.false))
    (omega (arith, c.split_at.ensures.back_len))
