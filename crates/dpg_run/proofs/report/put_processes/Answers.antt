use Rattle.std.proofs.Common.{◌+◌, ◌∙◌, map, arith}
use Rattle.std.proofs.lemmas.List.{length-map}
use Rattle.flat_machine.specs.Machine.{status_in}
use Rattle.dos_texts.specs.Report.{process_line}
use Rattle.dos_texts.proofs.Pieces.{on_err, same_text}
use Rattle.dpg_run.proofs.ReportLaws.{front_more, status_at, told_all, told_more}
use Rattle.dpg_run.proofs.report.put_processes.Goals as goal

pub returns-in_err-put-clause-front : goal.returns-in_err-put-clause-front
returns-in_err-put-clause-front g c =
    let processes = c.args.table.now.processes in
    let status = status_at processes c.loop-place.place c.status.result
    (omega arith) c.status.ensures in
    on_err c.from_residual.result _
    (front_more (g.S.Sink.told c.args.sink.now) (g.S.Sink.told c.loop-place.sink)
    (g.S.Sink.told c.put.new.self)
    (map status_in processes) c.loop-place.place c.status.result c.as_bytes.result.now
    (omega (arith, length-map processes status_in)) status c.loop-place.invariant.told
    (same_text c.as_bytes.result.now c.as_str.result.now c.process_line.result.bytes
    (process_line (c.loop-place.place + 1) c.status.result) c.as_bytes.ensures.value
    c.as_str.ensures.value c.process_line.ensures) c.in_err-put.ensures.err)

pub loop-place-preserved : goal.loop-place-preserved
loop-place-preserved g c =
    let processes = c.args.table.now.processes in
    let status = status_at processes c.loop-place.place c.status.result
    (omega arith) c.status.ensures in
    let later = c.put.ensures.cause.later in
    record {
      told = told_more (g.S.Sink.told c.args.sink.now) (g.S.Sink.told c.loop-place.sink)
          (g.S.Sink.told c.put.new.self)
          (map status_in processes) c.loop-place.place c.status.result c.as_bytes.result.now
          (omega (arith, length-map processes status_in)) status c.loop-place.invariant.told
          (same_text c.as_bytes.result.now c.as_str.result.now c.process_line.result.bytes
          (process_line (c.loop-place.place + 1) c.status.result)
          c.as_bytes.ensures.value c.as_str.ensures.value c.process_line.ensures)
          c.in_ok-put.ensures.ok;
      later = omega (arith, c.loop-place.invariant.later, later);
      steady = c.in_ok-put.ensures.steady ∙ c.loop-place.invariant.steady;
    }

pub returns-clause-told : goal.returns-clause-told
returns-clause-told g c =
    let processes = c.args.table.now.processes in
    told_all (g.S.Sink.told c.args.sink.now) (g.S.Sink.told c.loop-place.sink)
    (map status_in processes) c.loop-place.place (omega (arith, length-map processes status_in))
    c.loop-place.invariant.told
