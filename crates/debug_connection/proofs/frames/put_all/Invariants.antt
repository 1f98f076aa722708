use Rattle.std.proofs.Common.{◌≡◌, take}
use Rattle.dos_io.specs.Outside.{grown}
use Rattle.debug_connection.specs.Keeping.{all_of, texts_of}
use Rattle.debug_connection.proofs.frames.put_all.Given as goal

-- the frames so far were put
abbrev pub invariant-loop-frame : goal.invariant-loop-frame
invariant-loop-frame g l = record {
  told : g.O.Sink.told l.out
      ≡ grown (g.O.Sink.told l.fn.out) (all_of (texts_of (take l.frame-index l.fn.frames)));
  steady : g.O.Sink.faults l.out ≡ g.O.Sink.faults l.fn.out;
}
