use Rattle.std.proofs.Common.{◌+◌, ◌-◌, arith}
use Rattle.dos_world.specs.Numbered.{run_of}
use Rattle.debug_client.proofs.Walked.{one_put, run_here}
use Rattle.debug_client.proofs.numbers.run_of.Goals as goal

pub loop-place-preserved : goal.loop-place-preserved
loop-place-preserved c =
    let i = c.loop-place.place in
    let n = c.args.count in
    one_put c.loop-place.numbers.items _ (i + 1) c.push.new.self.items
    (run_of (1 + i) (n - i)) (run_of (1 + (i + 1)) (n - (i + 1))) c.loop-place.invariant
    (run_here i n (omega (arith, c.loop-place-test.true))) c.in_ok-push.ensures.items
