use Rattle.std.proofs.Common.{◌≡◌, ◌<◌, ◌^◌, drop}
use Rattle.gdb_packets.specs.Commands.{digits_behind}
use Rattle.gdb_packets.proofs.commands.digits_value.Given as goal

-- what is left completes the value, and it fits
abbrev pub invariant-loop-c : goal.invariant-loop-c
invariant-loop-c l = record {
  rest : digits_behind l.value (drop l.c-index l.text) ≡ digits_behind 0 l.text;
  bound : l.value < 10 ^ l.c-index;
}
