use Rattle.std.proofs.Common.{◌≡◌, length}
use Rattle.gdb_packets.specs.Commands.{words_between}
use Rattle.gdb_packets.proofs.commands.next_word.Given as goal

-- what is left has the same words
abbrev pub invariant-loop-part : goal.invariant-loop-part
invariant-loop-part l = words_between l.rest ≡ words_between l.text

abbrev pub decreases-loop-part : goal.decreases-loop-part
decreases-loop-part l = length l.rest
