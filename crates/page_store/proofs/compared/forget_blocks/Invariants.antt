use Rattle.page_store.specs.Compared.{AreFewer}
use Rattle.page_store.proofs.Placed.{IsUncomparedBelow}
use Rattle.page_store.proofs.compared.forget_blocks.Given as goal

abbrev pub invariant-loop-block : goal.invariant-loop-block
invariant-loop-block l = record {
  none : IsUncomparedBelow l.block l.blocks l.slot;
  fewer : AreFewer l.fn.blocks l.blocks;
}
