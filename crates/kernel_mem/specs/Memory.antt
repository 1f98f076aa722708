-- What a call does to frames when a process's space is dropped. This project's own rules.
use Rattle.std.specs.Prelude.{◌≡◌, ◌+◌, ◌-◌, ◌≤◌, ◌==◌, ◌&&◌, nat_lt, ℕ, Bool, List, Option, length}
use Rattle.std.specs.Prelude.{count_by, if◌then◌else◌}
use Rattle.dos_world.specs.declared.Entry.{Entry}
use Rattle.dos_world.specs.declared.Owner.{Owner}
use Rattle.dos_world.specs.declared.Owner.TheVariants.{Free}
use Rattle.page_store.specs.Store.{KeepsFrames, Store, zeroed, owner_at, page_at, uses_at}

-- how many entries of a space have a frame
abbrev pub entries_of : List (ℕ × Entry) → ℕ → ℕ
entries_of space frame = count_by (λ e. e.1.frame == frame) space

-- each entry of a space is a use of its frame
abbrev pub AreUsed : List (ℕ × Entry) → Store → Type 0
AreUsed space s = (frame : ℕ) → entries_of space frame ≤ uses_at s frame

-- whether a frame's last use was one of these entries
abbrev pub is_last : List (ℕ × Entry) → Store → ℕ → Bool
is_last space s frame =
    nat_lt 0 (entries_of space frame) && (uses_at s frame == entries_of space frame)

-- the owner of a frame: nobody where its last use is gone
abbrev pub owner_without : List (ℕ × Entry) → Store → ℕ → Owner
owner_without space s frame = if is_last space s frame then Free else owner_at s frame

-- the page of a frame: zeros where its last use is gone
abbrev pub page_without : List (ℕ × Entry) → Store → ℕ → Option (List ℕ)
page_without space s frame =
    if is_last space s frame then zeroed (page_at s frame) else page_at s frame

-- Each entry of a space is a use less, and a frame is Free and zero where none is left. No other
-- page and no other owner changed.
pub record IsDropped (space : List (ℕ × Entry)) (old new : Store) : Type 0 where
  pub page_count : length new.pages ≡ length old.pages
  pub pages : (frame : ℕ) → page_at new frame ≡ page_without space old frame
  pub frames : KeepsFrames old new
  pub uses : (frame : ℕ) → uses_at new frame ≡ uses_at old frame - entries_of space frame
  pub owners : (frame : ℕ) → owner_at new frame ≡ owner_without space old frame

-- As many uses came to each frame as entries of this space, and as many went.
abbrev pub HasUsesOf : List (ℕ × Entry) → Store → List (ℕ × Entry) → Store → Type 0
HasUsesOf before old after new =
    (frame : ℕ) → uses_at new frame + entries_of before frame
    ≡ uses_at old frame + entries_of after frame
