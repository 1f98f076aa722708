-- What stays of the frames where words are put in memory. This project's own rule.
use Rattle.std.specs.Prelude.{◌≡◌}
use Rattle.page_store.specs.Store.{Store}
use Rattle.kernel_mem.specs.MemoryWorld.{HasAllHome}

-- All stands but bytes: all pages are home, and each frame has its owner and its uses.
pub record StandsButBytes (old new : Store) : Type 0 where
  pub home : HasAllHome new
  pub owners : new.owners ≡ old.owners
  pub uses : new.uses ≡ old.uses
  pub marked : new.marked ≡ old.marked
