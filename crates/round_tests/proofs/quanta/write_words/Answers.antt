use Rattle.std.proofs.Common.{arith}
use Rattle.page_store.proofs.Joined.{home-at}
use Rattle.round_tests.proofs.quanta.write_words.Goals as goal

pub lend_mut-requires : goal.lend_mut-requires
lend_mut-requires c = home-at c.loop-address.frames.pages _ c.loop-address.invariant.0
    (omega (arith, c.loop-address.invariant.1))
