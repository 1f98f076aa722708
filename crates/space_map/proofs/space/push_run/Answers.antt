use Rattle.std.proofs.Common.{rules, vec_len, ◌≡◌, length, length-append, ap, arith}
use Rattle.space_map.proofs.PutRun.{run_entries, one_pushed, length-run}
use Rattle.space_map.proofs.space.push_run.Goals as goal

pub unreachable-requires : goal.unreachable-requires
unreachable-requires c =
    let count : vec_len c.loop-index.entries ≡ length c.loop-index.entries.items = search rules in
    absurd (omega (
      arith,
      c.loop-index-test.true,
      c.loop-index.invariant.capacity,
      c.requires.room,
      count,
      ap length c.loop-index.invariant.items,
      length-append c.args.entries.now.items
          (run_entries c.args.page c.loop-index.index c.args.entry),
      length-run c.args.page c.loop-index.index c.args.entry,
      c.in-Err.ensures.full,
    ))

pub loop-index-preserved : goal.loop-index-preserved
loop-index-preserved c = record {
  items = one_pushed c.args.entries.now.items c.loop-index.entries.items c.push.new.self.items
      c.args.page c.loop-index.index c.args.entry c.loop-index.invariant.items
      c.in-Ok.ensures.items;
  capacity = omega (arith, c.loop-index.invariant.capacity, c.push.ensures.capacity);
}
