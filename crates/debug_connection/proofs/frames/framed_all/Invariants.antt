use Rattle.std.proofs.Common.{◌≡◌, take}
use Rattle.std.specs.Prelude.{map}
use Rattle.gdb_packets.specs.Framing.{frame}
use Rattle.debug_connection.specs.Keeping.{texts_of}
use Rattle.debug_connection.proofs.frames.framed_all.Given as goal

-- the frames of the packets so far
abbrev pub invariant-loop-body : goal.invariant-loop-body
invariant-loop-body l =
    texts_of l.frames.items ≡ map frame (texts_of (take l.body-index l.fn.bodies))
