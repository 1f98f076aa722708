use Rattle.std.proofs.Common.{arith}
use Rattle.kernel_mem.proofs.Dropping.{next-used, next-dropped}
use Rattle.kernel_mem.proofs.drop.drop_uses.Goals as goal

pub use_less-requires : goal.use_less-requires
use_less-requires c =
    next-used c.args.frames.now c.loop-index.frames c.args.space.now.entries c.loop-index.index
    c.at.result c.requires c.loop-index.invariant (omega arith) c.at.ensures

pub loop-index-preserved : goal.loop-index-preserved
loop-index-preserved c =
    next-dropped c.args.frames.now c.loop-index.frames c.args.space.now.entries c.loop-index.index
    c.at.result c.requires c.loop-index.invariant (omega arith) c.at.ensures c.use_less.new.self
    c.use_less.ensures
