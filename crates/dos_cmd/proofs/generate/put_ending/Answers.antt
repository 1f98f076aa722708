use Rattle.std.proofs.Common.{◌≡◌, ◌-◌, map}
use Rattle.flat_machine.specs.Machine.{status_in}
use Rattle.dos_texts.specs.Report.{process_lines, rounds_line}
use Rattle.dos_texts.proofs.Pieces.{both_steady, both_told, first_fails, on_err, second_fails}
use Rattle.dos_cmd.proofs.GenRuns.{same_lines, same_rounds}
use Rattle.dos_cmd.proofs.generate.put_ending.Given.{Over}
use Rattle.dos_cmd.proofs.generate.put_ending.Goals.{After-put}
use Rattle.dos_cmd.proofs.generate.put_ending.Goals as goal

-- what is put first
first : (g : Over) (c : After-put g)
    → c.as_bytes.result.now ≡ rounds_line (c.args.kernel.now.state.round - 1) c.args.ending
first g c = same_rounds c.as_bytes.result.now c.as_str.result.now c.rounds_line.result.bytes
    c.rounds.result _ c.args.ending c.as_bytes.ensures.value c.as_str.ensures.value
    c.rounds_line.ensures c.rounds.ensures

pub returns-in_err-put-clause-front : goal.returns-in_err-put-clause-front
returns-in_err-put-clause-front g c =
    let lines = process_lines 1 (map status_in c.args.kernel.now.state.table.processes) in
    on_err c.from_residual.result _
    (first_fails _ _ c.as_bytes.result.now _ lines
    (first g (goal.at.returns-in_err-put-clause-front g c).After-put) c.in_err-put.ensures.err)

pub returns-clause-told : goal.returns-clause-told
returns-clause-told g c =
    both_told c.put_processes.result _ _ _ c.as_bytes.result.now _ _ _
    (first g (goal.at.returns-clause-told g c).After-put)
    (same_lines c.state.result.now c.args.kernel.now.state c.state.ensures.state)
    c.in_ok-put.ensures.ok c.put_processes.ensures.told

pub returns-clause-front : goal.returns-clause-front
returns-clause-front g c =
    second_fails c.put_processes.result _ _ _ c.as_bytes.result.now _ _ _
    (first g (goal.at.returns-clause-front g c).After-put)
    (same_lines c.state.result.now c.args.kernel.now.state c.state.ensures.state)
    c.in_ok-put.ensures.ok c.put_processes.ensures.front

pub returns-clause-steady : goal.returns-clause-steady
returns-clause-steady g c =
    both_steady c.put_processes.result _ _ _ c.in_ok-put.ensures.steady
    c.put_processes.ensures.steady
