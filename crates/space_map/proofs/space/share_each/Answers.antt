use Rattle.space_map.specs.Mapping.{shared_in_run}
use Rattle.space_map.proofs.Mapped.{map_loop}
use Rattle.space_map.proofs.space.share_each.Goals as goal

pub loop-entry-preserved : goal.loop-entry-preserved
loop-entry-preserved c = map_loop
    (shared_in_run c.args.page c.args.count) c.args.entries.now c.loop-entry.entries
    c.loop-entry.entry-index _ _ c.loop-entry.invariant c.loop-entry-test.true
    c.loop-entry.auto.entries c.shared.ensures
