use Rattle.std.proofs.Common.{◌≡◌, ◌<◌, ◌^◌, drop}
use Rattle.gdb_packets.specs.Hexadecimal.{nibbles_behind}
use Rattle.gdb_packets.proofs.hexadecimal.nibbles_value.Given as goal

-- what is left completes the value, and it fits
abbrev pub invariant-loop-c : goal.invariant-loop-c
invariant-loop-c l = record {
  rest : nibbles_behind l.value (drop l.c-index l.text) ≡ nibbles_behind 0 l.text;
  bound : l.value < 16 ^ l.c-index;
}
