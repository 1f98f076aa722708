use Rattle.std.proofs.Common.{arith}
use Rattle.page_store.proofs.Joined.{home-at}
use Rattle.loop_packs.proofs.write_jump.Goals as goal

pub lend_mut-requires : goal.lend_mut-requires
lend_mut-requires c =
    home-at c.args.frames.now.pages _ c.requires.home (omega (arith, c.requires.count))
