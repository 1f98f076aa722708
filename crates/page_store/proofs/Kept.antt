-- Frames that stay as many, and marked as before.
use Rattle.std.proofs.Common.{ℕ, slice_set, length-set, refl, ◌∙◌}
use Rattle.dos_world.specs.declared.Owner.{Owner}
use Rattle.page_store.specs.Store.{KeepsFrames, Store}

pub frames-same : (s : Store) → KeepsFrames s s
frames-same s = record { count = refl; marked = refl }

-- where one owner was set
pub frames-set : (s : Store) (frame : ℕ) (owner : Owner)
    → KeepsFrames s (record s { owners = slice_set s.owners frame owner })
frames-set s frame owner = record { count = length-set s.owners frame owner; marked = refl }

-- the later, and before it the first
pub frames-then : {s u v : Store} → KeepsFrames u v → KeepsFrames s u → KeepsFrames s v
frames-then later first = record {
  count = later.count ∙ first.count;
  marked = later.marked ∙ first.marked;
}
