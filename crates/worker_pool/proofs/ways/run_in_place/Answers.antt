use Rattle.std.proofs.Common.{arith, sym}
use Rattle.quantum_run.specs.Packs.{seen_by_view}
use Rattle.worker_pool.proofs.RanPacks.{one-more}
use Rattle.worker_pool.proofs.ways.run_in_place.Goals as goal

pub loop-place-preserved : goal.loop-place-preserved
loop-place-preserved g c =
    let inv = c.loop-place.invariant in
    let test = c.loop-place-test.true in
    let count = c.len-place-end.ensures in
    let level = inv.level in
    let pack = c.index_mut.result.now in
    let more = one-more (seen_by_view c.args.view.now) c.args.packs.now.items
    c.loop-place.packs.items
    c.loop-place.place pack
    c.run_gated.new.pack level (omega (arith, test, count, level))
    (sym c.index_mut.ensures.value) c.run_gated.ensures inv.ran inv.rest in
    record { level = more.0; ran = more.1; rest = more.2; room = inv.room }
