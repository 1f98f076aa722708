-- The owners as they were when marked. This project's own rules.
use Rattle.std.specs.Prelude.{◌≡◌, ◌≢◌, ℕ, Bool, true, false, List, [], length, Option, Some}
use Rattle.std.specs.Prelude.{None, ⊤, slice_index_or}
use Rattle.dos_world.specs.declared.Owner.{Owner}
use Rattle.dos_world.specs.declared.Owner.TheVariants.{Free}
use Rattle.page_store.specs.declared.changes.Changes.{Changes}

-- the marked owners, none where nothing is marked
abbrev pub marked_in : Option Changes → List Owner
marked_in None = []
marked_in (Some changes) = changes.owners.items

-- The bits say of each frame whether its owner isn't the one that was marked.
pub record AreNoted (owners marked : List Owner) (noted : List Bool) : Type 0 where
  pub each : length marked ≡ length owners
  pub bits : length noted ≡ length owners
  pub set : (frame : ℕ) → slice_index_or noted frame false ≡ true
      → slice_index_or marked frame Free ≢ slice_index_or owners frame Free
  pub unset : (frame : ℕ) → slice_index_or noted frame false ≡ false
      → slice_index_or marked frame Free ≡ slice_index_or owners frame Free

-- the same where owners are marked at all
abbrev pub AreNotedIn : List Owner → Option Changes → Type 0
AreNotedIn owners None = ⊤
AreNotedIn owners (Some changes) = AreNoted owners changes.owners.items changes.noted
