use Rattle.std.proofs.Common.{◌≡◌, take, Ok}
use Rattle.gdb_packets.specs.Framer.{framing_of}
use Rattle.gdb_packets.specs.Framing.{framing_behind}
use Rattle.debug_session.specs.Sessions.{Session}
use Rattle.debug_connection.specs.Keeping.{connection_of}
use Rattle.debug_connection.specs.Speaking.{HasHeard}
use Rattle.debug_connection.proofs.connection.Connection.hear_bytes.Given as goal

-- the bytes so far were heard
abbrev pub invariant-loop-byte : goal.invariant-loop-byte
invariant-loop-byte g l = record {
  framing : framing_of l.framer
      ≡ framing_behind (framing_of l.fn.framer) (take l.byte-index l.fn.bytes);
  heard : (s : Session) → g.S.Answering.shows l.fn.server s
      → HasHeard (g.S.Answering.shows l.server) l.self (Ok tt) (connection_of l.fn.self s)
      (framing_of l.fn.framer) (take l.byte-index l.fn.bytes) (g.O.Sink.told l.fn.out)
      (g.O.Sink.told l.out);
  steady : g.O.Sink.faults l.out ≡ g.O.Sink.faults l.fn.out;
}
