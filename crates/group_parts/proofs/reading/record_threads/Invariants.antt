use Rattle.std.proofs.Common.{◌≡◌, map, take}
use Rattle.std.specs.Prelude.{All}
use Rattle.proc_table.specs.Spread.{living_from}
use Rattle.group_text.specs.Records.{thread_of_record}
use Rattle.group_parts.specs.Reading.{HasWordBudget}
use Rattle.group_parts.proofs.reading.record_threads.Given as goal

abbrev pub invariant-loop-place : goal.invariant-loop-place
invariant-loop-place l =
    record {
      threads : map thread_of_record l.records.items
          ≡ take l.place (living_from 1 l.table.threads);
      budgets : All HasWordBudget l.records.items;
    }
