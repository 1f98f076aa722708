use Rattle.std.proofs.Common.{◌≡◌, replicate}
use Rattle.dos_world.specs.declared.Owner.TheVariants.{Free}
use Rattle.page_store.proofs.frames.free_owners.Given as goal

abbrev pub invariant-loop-place : goal.invariant-loop-place
invariant-loop-place l = l.owners.items ≡ replicate l._place Free
