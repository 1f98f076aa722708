use Rattle.std.proofs.Common.{◌+◌, ◌≤◌, [], length, map, sym, subst}
use Rattle.std.specs.Prelude.{All}
use Rattle.proc_table.specs.Spread.{AreRising, spread}
use Rattle.proc_table.specs.Tables.{Tables}
use Rattle.group_text.specs.Records.{thread_of_record}
use Rattle.group_text.specs.declared.records.ThreadRecord.{ThreadRecord}
use Rattle.group_parts.specs.Restoring.{AreRestorable}
use Rattle.group_parts.proofs.Facts.{all_restorable, few_saved, table_begun, threads_rise}
use Rattle.group_save.proofs.restoring.table_of.Goals as goal

pub restore_table-requires-clause-saved : goal.restore_table-requires-clause-saved
restore_table-requires-clause-saved c =
    subst (λ ts. All (λ (r : ThreadRecord). length r.saved.items ≤ 4) ts)
    (sym c.deref.ensures.value)
    (few_saved c.args.group.now c.requires.fits c.requires.lawful)

pub restore_table-requires-clause-rising : goal.restore_table-requires-clause-rising
restore_table-requires-clause-rising c =
    subst (λ ts. AreRising 1 (c.args.group.now.given + 1) (map thread_of_record ts))
    (sym c.deref.ensures.value)
    (threads_rise c.args.group.now c.requires.fits c.requires.lawful)

pub restore_table-requires-clause-processes : goal.restore_table-requires-clause-processes
restore_table-requires-clause-processes c =
    subst (λ ts.
    let t : Tables = record {
      processes = [];
      threads = spread (map thread_of_record ts) c.args.group.now.given;
      room = c.args.group.now.config.frames;
    } in AreRestorable t c.deref-2.result.now) (sym c.deref.ensures.value)
    (subst (λ rs.
    AreRestorable (table_begun c.args.group.now c.requires.fits c.requires.lawful) rs)
    (sym c.deref-2.ensures.value)
    (all_restorable c.args.group.now c.requires.fits c.requires.lawful))
