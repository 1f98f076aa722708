use Rattle.std.proofs.Common.{◌≡◌, ℕ, true, false, Result, Ok, Err, sym, ap, ◌∙◌}
use Rattle.std.specs.Prelude.{◌/◌}
use Rattle.dos_world.specs.World.{World}
use Rattle.dos_world.specs.MemoryCalls.{shared}
use Rattle.proc_table.specs.Tables.{thread_in}
use Rattle.page_store.specs.Store.{Store}
use Rattle.kernel_mem.specs.MemoryWorld.{in_world, space_in}
use Rattle.kernel_mem.specs.Ranges.{are_range, maps_all, range_call}
use Rattle.kernel_mem.proofs.Children.{caller_lives, to-process}
use Rattle.kernel_mem.proofs.Runs.{where_is}
use Rattle.kernel_mem.proofs.ranges.share.Goals as goal

pub is_mapped_range-requires : goal.is_mapped_range-requires
is_mapped_range-requires c =
    caller_lives c.requires.caller c.process_of-pid.result c.process_of-pid.ensures

pub returns-then-not-is_mapped_range-clause-shares :
    goal.returns-then-not-is_mapped_range-clause-shares
returns-then-not-is_mapped_range-clause-shares c =
    to-process (λ p. (w : World) (s : Store)
    → shared (range_call
    (in_world w s c.args.table.now) c.args.tid p c.args.address c.args.pages 0)
    ≡ Err 22)
    (thread_in c.args.table.now.threads c.args.tid) c.process_of-pid.result c.process_of-pid.ensures
    (λ w s. where_is (are_range c.args.address c.args.pages)
    (maps_all (space_in c.args.table.now c.process_of-pid.result)
    (c.args.address / 4096) c.args.pages) false _ c.if-not-is_mapped_range.ensures)

pub returns-clause-shares : goal.returns-clause-shares
returns-clause-shares c =
    to-process (λ p. (w : World) (s : Store)
    → shared (range_call
    (in_world w s c.args.table.now) c.args.tid p c.args.address c.args.pages 0)
    ≡ Ok (in_world w s c.share_run.new.self))
    (thread_in c.args.table.now.threads c.args.tid) c.process_of-pid.result c.process_of-pid.ensures
    (λ w s. where_is (are_range c.args.address c.args.pages)
    (maps_all (space_in c.args.table.now c.process_of-pid.result)
    (c.args.address / 4096) c.args.pages) true _ c.if-not-is_mapped_range.ensures
    ∙ ap (λ T. done (in_world w s T)) (sym c.share_run.ensures))
  where
    done : World → Result World ℕ
    done w = Ok w
