use Rattle.std.proofs.Common.{◌≡◌}
use Rattle.gdb_packets.specs.Framer.{framing_of}
use Rattle.debug_session.specs.Sessions.{Session}
use Rattle.debug_connection.proofs.Served.{Serving}
use Rattle.debug_connection.proofs.serving.serve.Given as goal

-- Each session that was shown was served so far, and nothing failed.
abbrev pub invariant-loop : goal.invariant-loop
invariant-loop g l = record {
  serving : (s : Session) → g.S.Answering.shows l.fn.server s
      → Serving (g.S.Answering.shows l.server) l.connection (framing_of l.framer) s
      (g.H.Host.told l.fn.host) (g.H.Host.told l.host) (g.O.Sink.told l.fn.out)
      (g.O.Sink.told l.out);
  host : g.H.Host.faults l.host ≡ g.H.Host.faults l.fn.host;
  out : g.O.Sink.faults l.out ≡ g.O.Sink.faults l.fn.out;
}
