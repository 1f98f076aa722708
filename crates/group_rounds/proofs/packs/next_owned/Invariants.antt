use Rattle.std.proofs.Common.{◌≤◌, ◌<◌, ◌≢◌, ℕ}
use Rattle.dos_world.specs.declared.Owner.TheVariants.{Of}
use Rattle.page_store.specs.Store.{owner_at}
use Rattle.group_rounds.proofs.packs.next_owned.Given as goal

abbrev pub invariant-loop-frame : goal.invariant-loop-frame
invariant-loop-frame l = (f t : ℕ) → l.fn.from ≤ f → f < l.frame → owner_at l.fn.frames f ≢ Of t
