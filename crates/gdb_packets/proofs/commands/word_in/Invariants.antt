use Rattle.std.proofs.Common.{◌≡◌, drop}
use Rattle.gdb_packets.specs.Commands.{word_among}
use Rattle.gdb_packets.proofs.commands.word_in.Given as goal

-- what is left of the table answers as the whole
abbrev pub invariant-loop-word : goal.invariant-loop-word
invariant-loop-word l = word_among (drop l.word-index l.table) l.text ≡ word_among l.table l.text
