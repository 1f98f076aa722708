-- The pages that a thread reaches. This project's own rules.
use Rattle.std.specs.Prelude.{ℕ, ◌≡◌, ◌<◌, Bool, true, false, List, [], ◌∷◌, is_some, Option, Some}
use Rattle.std.specs.Prelude.{None, Ok, length, slice_get, slice_set}
use Rattle.dos_world.specs.World.{look}
use Rattle.dos_world.specs.Reach.{written}
use Rattle.dos_world.specs.declared.Access.{Access}
use Rattle.dos_world.specs.declared.Entry.{Entry}
use Rattle.dos_world.specs.declared.Owner.{Owner}
use Rattle.page_store.specs.Store.{whole}
use Rattle.quantum_run.specs.Finding.{frame_for, IsWriting}

-- whether a frame's page is here
abbrev pub is_here : List (Option (List ℕ)) → ℕ → Bool
is_here pages frame = elim (slice_get pages frame) [ None ↦ false | Some page ↦ is_some page ]

abbrev pub IsPageHere : List (Option (List ℕ)) → ℕ → Type 0
IsPageHere pages frame = is_here pages frame ≡ true

-- the page of a frame has these bytes written at an offset; all other pages stand
pub record Writes (old new : List (Option (List ℕ))) (frame offset : ℕ)
    (bytes : List ℕ) : Type 0 where
  pub before : List ℕ
  pub after : List ℕ
  pub was : slice_get old frame ≡ Some (Some before)
  pub is : whole after ≡ written (whole before) offset bytes
  pub pages : new ≡ slice_set old frame (Some after)

-- each frame that an access of t finds has its page here
abbrev pub AreReached : ℕ → List Owner → List (ℕ × Entry) → List (Option (List ℕ)) → Type 0
AreReached t owners entries pages = (access : Access) (address frame : ℕ)
    → frame_for t owners entries access address ≡ Ok frame → IsPageHere pages frame

-- and those that it would write are its own
abbrev pub AreOwn : ℕ → List Owner → List (ℕ × Entry) → (ℕ → Bool) → Type 0
AreOwn t owners entries own = (access : Access) (address frame : ℕ) → IsWriting access
    → frame_for t owners entries access address ≡ Ok frame → own frame ≡ true

abbrev pub AreWithin : List Owner → List (ℕ × Entry) → Type 0
AreWithin owners entries = (page : ℕ) (e : Entry) → look entries page ≡ Some e
    → e.frame < length owners

-- own pages before lent ones
abbrev pub overlay : List (Option (List ℕ)) → List (Option (List ℕ)) → List (Option (List ℕ))
overlay [] lent = lent
overlay (Some page ∷ own) [] = Some page ∷ overlay own []
overlay (None ∷ own) [] = None ∷ overlay own []
overlay (Some page ∷ own) (x ∷ lent) = Some page ∷ overlay own lent
overlay (None ∷ own) (x ∷ lent) = x ∷ overlay own lent
