use Rattle.std.proofs.Common.{◌∙◌}
use Rattle.dos_cmd.proofs.GenRuns.{memory_alone, quiet_halt, quiet_run}
use Rattle.dos_cmd.proofs.generate.run_quietly.Goals as goal

pub returns-in-Ok-clause-ran : goal.returns-in-Ok-clause-ran
returns-in-Ok-clause-ran g c = λ images config opened.
    let run = c.in-Ok.ensures in
    quiet_run c.args.kernel.now c.run_group.new.kernel c.new-shim.result c.run_group.new.shim
    c.new-output.result c.run_group.new.out c.in-Ok.ending _ _ _ _ _ run.follows
    c.new-output.ensures run.runs.1 run.runs.2 c.finish-count.ensures.count
    c.finish-count.ensures.digest images config opened

pub returns-clause-halted : goal.returns-clause-halted
returns-clause-halted g c = λ images config opened.
    let run = c.in-Err.ensures in
    quiet_halt c.args.kernel.now c.new-shim.result c.run_group.new.shim _ _ _ _ c.in-Err.stop _ _
    run.follows run.causes.shim run.causes.sinks run.asks run.grew images config opened

pub returns-clause-refused : goal.returns-clause-refused
returns-clause-refused g c =
    let run = c.in-Err.ensures in
    c.refusal_by.ensures
    ∙ memory_alone c.in-Err.stop _ c.run_group.new.shim run.causes.shim run.causes.sinks
