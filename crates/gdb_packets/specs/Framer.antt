-- What the reader of packets holds, as its definition sees it.
use Rattle.gdb_packets.specs.declared.framing.Framer.{Framer}
use Rattle.gdb_packets.specs.Framing.{Framing}

abbrev pub framing_of : Framer → Framing
framing_of f = record { place = f.place; body = f.body.items; running = f.running }
