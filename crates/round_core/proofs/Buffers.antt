-- The parallel phase in the buffered scheme changes at most bytes and threads.
use Rattle.std.proofs.Common.{ℕ, ◌≡◌, refl, List, [], ◌∷◌}
use Rattle.dos_world.specs.World.{World, ready_threads}
use Rattle.flat_machine.specs.Buffered.{all_put, buffered, part_b, with_part}

all_put-form : (began w : World) (ts : List ℕ) → all_put began w ts
    ≡ record w { bytes = (all_put began w ts).bytes; threads = (all_put began w ts).threads }
all_put-form began w [] = refl
all_put-form began w (t ∷ ts) = all_put-form began (with_part w t (part_b began t)) ts

pub buffered-form : (w : World)
    → buffered w ≡ record w { bytes = (buffered w).bytes; threads = (buffered w).threads }
buffered-form w = all_put-form w w (ready_threads w)
