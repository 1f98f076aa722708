use Rattle.std.proofs.Common.{◌∙◌, arith, ap, sym, subst, Some, []}
use Rattle.std.specs.Prelude.{All}
use Rattle.std.proofs.lemmas.List.{take_all}
use Rattle.std.proofs.lemmas.List.Elements.{All-append, All-nil, All-cons}
use Rattle.proc_table.specs.Spread.{living_from}
use Rattle.group_text.specs.Records.{thread_of_record}
use Rattle.group_parts.specs.Reading.{HasWordBudget}
use Rattle.group_parts.proofs.Taken.{living_count, mapped_more}
use Rattle.group_parts.proofs.reading.record_threads.Goals as goal

pub live_thread-tid-requires : goal.live_thread-tid-requires
live_thread-tid-requires c = omega (
  arith,
  living_count 1 c.args.table.now.threads,
  c.live_threads-count.ensures,
  c.loop-place-test.true,
)

pub loop-place-preserved : goal.loop-place-preserved
loop-place-preserved c = record {
  threads = mapped_more thread_of_record (living_from 1 c.args.table.now.threads)
      c.loop-place.place c.in_ok-record_thread.field-0 c.loop-place.records.items
      c.in_ok-push.ensures.items c.loop-place.invariant.threads
      (c.live_thread-tid.ensures ∙ ap Some (sym c.in_ok-record_thread.ensures.thread));
  budgets = subst (λ rs. All HasWordBudget rs) (sym c.in_ok-push.ensures.items)
      (All-append HasWordBudget c.loop-place.records.items _ c.loop-place.invariant.budgets
      (All-cons HasWordBudget c.in_ok-record_thread.field-0 [] c.in_ok-record_thread.ensures.budget
      (All-nil HasWordBudget)));
}

pub returns-clause-threads : goal.returns-clause-threads
returns-clause-threads c = c.loop-place.invariant.threads
    ∙ take_all c.loop-place.place (living_from 1 c.args.table.now.threads) (omega (
      arith,
      living_count 1 c.args.table.now.threads,
      c.live_threads-count.ensures,
      c.loop-place-test.false,
    ))
