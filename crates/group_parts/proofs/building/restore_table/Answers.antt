use Rattle.std.proofs.Common.{◌∙◌, ◌++◌, ap, map}
use Rattle.group_text.specs.Records.{process_of_record, thread_of_record}
use Rattle.proc_table.specs.Spread.{spread}
use Rattle.proc_table.specs.Tables.{Tables}
use Rattle.group_parts.proofs.Facts.{all_restored_is}
use Rattle.group_parts.proofs.building.restore_table.Goals as goal

pub returns : goal.returns
returns c = c.in_ok-restore_processes.ensures
    ∙ all_restored_is c.in_ok-table.table c.args.processes.now
    ∙ ap (λ (t : Tables).
    let u : Tables = record t {
      processes = t.processes ++ map process_of_record c.args.processes.now;
    } in u) c.in_ok-table.ensures
    ∙ ap (λ live.
    let u : Tables = record {
      processes = map process_of_record c.args.processes.now;
      threads = spread live c.from.result;
      room = c.args.room;
    } in u) c.in_ok-live.ensures.threads
    ∙ ap (λ given.
    let u : Tables = record {
      processes = map process_of_record c.args.processes.now;
      threads = spread (map thread_of_record c.args.threads.now) given;
      room = c.args.room;
    } in u) c.from.ensures
