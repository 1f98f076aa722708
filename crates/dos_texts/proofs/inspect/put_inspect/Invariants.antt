use Rattle.std.proofs.Common.{◌≡◌, ◌++◌, ◌≤◌, take}
use Rattle.std.specs.Prelude.{flat_map}
use Rattle.dos_io.specs.Outside.{grown}
use Rattle.dos_texts.specs.Printed.{entry_line, part_line}
use Rattle.dos_texts.proofs.inspect.put_inspect.Given as goal

-- the lines so far
abbrev pub invariant-loop-part : goal.invariant-loop-part
invariant-loop-part g l = record {
  told : g.O.Sink.told l.out
      ≡ grown (g.O.Sink.told l.fn.out)
      (entry_line l.fn.image.entry ++ flat_map part_line (take l.part-index l.fn.image.parts));
  later : g.O.Sink.faults l.fn.out ≤ g.O.Sink.faults l.out;
  steady : g.O.Sink.faults l.out ≡ g.O.Sink.faults l.fn.out;
}
