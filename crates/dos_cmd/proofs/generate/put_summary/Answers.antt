use Rattle.std.proofs.Common.{map, ◌-◌}
use Rattle.flat_machine.specs.Machine.{status_in}
use Rattle.dos_texts.proofs.Pieces.{both_steady, on_err}
use Rattle.dos_cmd.proofs.GenRuns.{summary_told, summary_unended, summary_unprinted}
use Rattle.dos_cmd.proofs.generate.put_summary.Goals as goal

pub returns-in_err-put_ending-clause-front : goal.returns-in_err-put_ending-clause-front
returns-in_err-put_ending-clause-front g c =
    let state = c.args.kernel.now.state in
    let ran = c.args.ran.now in
    on_err c.from_residual.result _
    (summary_unended (map status_in state.table.processes) (state.round - 1) ran.ending ran.count
    ran.digest _ _ c.in_err-put_ending.ensures.front)

pub returns-clause-told : goal.returns-clause-told
returns-clause-told g c =
    let state = c.args.kernel.now.state in
    let ran = c.args.ran.now in
    summary_told (map status_in state.table.processes) (state.round - 1) ran.ending ran.count
    ran.digest c.put_output.result _ _ _ c.in_ok-put_ending.ensures.told c.put_output.ensures.told

pub returns-clause-front : goal.returns-clause-front
returns-clause-front g c =
    let state = c.args.kernel.now.state in
    let ran = c.args.ran.now in
    summary_unprinted (map status_in state.table.processes) (state.round - 1) ran.ending ran.count
    ran.digest c.put_output.result _ _ _ c.in_ok-put_ending.ensures.told c.put_output.ensures.front

pub returns-clause-steady : goal.returns-clause-steady
returns-clause-steady g c =
    both_steady c.put_output.result _ _ _ c.in_ok-put_ending.ensures.steady
    c.put_output.ensures.steady
