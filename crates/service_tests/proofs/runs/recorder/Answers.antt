use Rattle.std.proofs.Common.{arith}
use Rattle.dos_io.specs.Posts.{FitsPost}
use Rattle.service_tests.proofs.runs.recorder.Goals as goal

pub new-requires-clause-planned : goal.new-requires-clause-planned
new-requires-clause-planned g c =
    let one : FitsPost (record { pid = c.args.posts.now.pid; signal = c.args.posts.now.signal }) =
    record {
      pid = omega (arith, c.if-pid-gt65535.false);
      low = omega (arith, c.if-signal-lt1.false);
      high = omega (arith, c.if-signal-gt31.false);
    } in (one, (one, (one, (one, (one, tt)))))
