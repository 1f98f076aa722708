use Rattle.dos_cmd.proofs.Asked.{file_failed, no_memory, was_stored}
use Rattle.dos_cmd.proofs.run.store.Goals as goal

pub returns-in-Ok-clause-asked : goal.returns-in-Ok-clause-asked
returns-in-Ok-clause-asked g c =
    was_stored _ c.as_str.result.now c.args.name.now _ _ c.as_str.ensures c.in-Ok.ensures.asked

pub returns-in-Err-Memory-clause-asked : goal.returns-in-Err-Memory-clause-asked
returns-in-Err-Memory-clause-asked g c = no_memory c.store_log.result c.as_str.result.now
    c.args.name.now _ _ c.as_str.ensures c.store_log.ensures.asked

pub returns-in-Err-Fault-clause-asked : goal.returns-in-Err-Fault-clause-asked
returns-in-Err-Fault-clause-asked g c = file_failed _ c.as_str.result.now c.args.name.now _ _
    c.as_str.ensures c.in-Err-Fault.field-0-is c.in-Err-Fault.ensures.asked
