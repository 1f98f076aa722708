use Rattle.gdb_packets.proofs.hexadecimal.+push_nibbles.Given as goal

abbrev pub decreases-push_nibbles : goal.decreases-push_nibbles
decreases-push_nibbles g l = l.more
