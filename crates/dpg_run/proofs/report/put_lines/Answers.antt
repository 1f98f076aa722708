use Rattle.std.proofs.Common.{◌≡◌, map, refl}
use Rattle.flat_machine.specs.Machine.{status_in}
use Rattle.dos_texts.specs.Report.{process_lines, rounds_line}
use Rattle.dos_texts.proofs.Pieces.{on_err, same_text, first_fails, both_steady, both_told}
use Rattle.dos_texts.proofs.Pieces.{second_fails}
use Rattle.dpg_run.proofs.report.put_lines.Given.{Over}
use Rattle.dpg_run.proofs.report.put_lines.Goals.{After-put}
use Rattle.dpg_run.proofs.report.put_lines.Goals as goal

pub returns-in_err-put_processes-clause-front : goal.returns-in_err-put_processes-clause-front
returns-in_err-put_processes-clause-front g c =
    let lines = process_lines 1 (map status_in c.args.table.now.processes) in
    on_err c.from_residual.result _
    (first_fails _ _ lines lines (rounds_line c.args.rounds c.args.ending) refl
    c.in_err-put_processes.ensures.front)

-- what is put last
last : (g : Over) (c : After-put g)
    → c.as_bytes.result.now ≡ rounds_line c.args.rounds c.args.ending
last g c = same_text c.as_bytes.result.now c.as_str.result.now c.rounds_line.result.bytes
    (rounds_line c.args.rounds c.args.ending) c.as_bytes.ensures.value c.as_str.ensures.value
    c.rounds_line.ensures

pub returns-clause-told : goal.returns-clause-told
returns-clause-told g c =
    let lines = process_lines 1 (map status_in c.args.table.now.processes) in
    both_told c.put.result _ _ _ lines lines c.as_bytes.result.now
    (rounds_line c.args.rounds c.args.ending) refl
    (last g (goal.at.returns-clause-told g c).After-put) c.in_ok-put_processes.ensures.told
    c.put.ensures.ok

pub returns-clause-front : goal.returns-clause-front
returns-clause-front g c =
    let lines = process_lines 1 (map status_in c.args.table.now.processes) in
    second_fails c.put.result _ _ _ lines lines c.as_bytes.result.now
    (rounds_line c.args.rounds c.args.ending) refl
    (last g (goal.at.returns-clause-front g c).After-put) c.in_ok-put_processes.ensures.told
    c.put.ensures.err

pub returns-clause-steady : goal.returns-clause-steady
returns-clause-steady g c =
    both_steady c.put.result _ _ _ c.in_ok-put_processes.ensures.steady c.put.ensures.steady
