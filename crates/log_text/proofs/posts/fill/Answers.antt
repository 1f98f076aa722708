use Rattle.std.proofs.Common.{arith}
use Rattle.log_text.proofs.posts.fill.Goals as goal

pub first_post-requires : goal.first_post-requires
first_post-requires c = omega (arith, c.loop.invariant.0, c.loop-test.true)
