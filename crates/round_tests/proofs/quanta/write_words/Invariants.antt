use Rattle.std.proofs.Common.{◌≡◌, length}
use Rattle.page_store.specs.Store.{AreHome}
use Rattle.round_tests.proofs.quanta.write_words.Given as goal

abbrev pub invariant-loop-address : goal.invariant-loop-address
invariant-loop-address l = AreHome l.frames × (length l.frames.pages ≡ 4)
    × (l.frames.owners ≡ l.fn.frames.owners)
