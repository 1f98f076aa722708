use Rattle.std.proofs.Common.{◌≡◌, ◌≤◌, map, take}
use Rattle.dos_io.specs.Outside.{grown}
use Rattle.flat_machine.specs.Machine.{status_in}
use Rattle.dos_texts.specs.Report.{process_lines}
use Rattle.dpg_run.proofs.report.put_processes.Given as goal

-- the lines so far
abbrev pub invariant-loop-place : goal.invariant-loop-place
invariant-loop-place g l = record {
  told : g.S.Sink.told l.sink ≡ grown (g.S.Sink.told l.fn.sink)
      (process_lines 1 (take l.place (map status_in l.fn.table.processes)));
  later : g.S.Sink.faults l.fn.sink ≤ g.S.Sink.faults l.sink;
  steady : g.S.Sink.faults l.sink ≡ g.S.Sink.faults l.fn.sink;
}
