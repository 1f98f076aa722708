-- The children of each process that weren't collected, linked in rising number. This project's own
-- rules.
use Rattle.std.specs.Prelude.{◌≡◌, ◌⊎◌, ◌<◌, ◌≤◌, ◌==◌, ◌&&◌, not, ℕ, Bool, true, false, List, []}
use Rattle.std.specs.Prelude.{◌∷◌, ◌++◌, length, Option, None, Some, if◌then◌else◌}
use Rattle.dos_world.specs.Numbered.{numbered, changed}
use Rattle.proc_table.specs.Places.{is_collected}
use Rattle.proc_table.specs.declared.record.Record.{Record}
use Rattle.proc_table.specs.declared.record.Links.{Links}

-- ---- who is a child

-- whether a process is a child of this parent that wasn't collected
abbrev pub is_uncollected : ℕ → Record → Bool
is_uncollected parent r = (r.parent == parent) && not (is_collected r.kept)

-- whether the record of this number is there, and passes the test
abbrev pub passes : (Record → Bool) → Option Record → Bool
passes test None = false
passes test (Some r) = test r

abbrev pub passes_at : (Record → Bool) → List Record → ℕ → Bool
passes_at test records n = passes test (numbered records n)

abbrev pub is_child_at : List Record → ℕ → ℕ → Bool
is_child_at records parent n = passes_at (is_uncollected parent) records n

-- ---- the links

-- where nothing is linked: no child, and no other child of the parent
abbrev pub no_links : Links
no_links = record { first = 65536; last = 0; previous = 0; next = 65536 }

abbrev pub links_at : List Links → ℕ → Links
links_at links n = elim (numbered links n) [ None ↦ no_links | Some l ↦ l ]

-- the child of the parent after this one, where 0 stands before the first and 65536 after the last
abbrev pub next_in : List Links → ℕ → ℕ → ℕ
next_in links parent n =
    if n == 0 then (links_at links parent).first else (links_at links n).next

-- the child of the parent before this one
abbrev pub previous_in : List Links → ℕ → ℕ → ℕ
previous_in links parent n =
    if n == 65536 then (links_at links parent).last else (links_at links n).previous

abbrev pub first_to : ℕ → Links → Links
first_to n l = record l { first = n }

abbrev pub last_to : ℕ → Links → Links
last_to n l = record l { last = n }

abbrev pub previous_to : ℕ → Links → Links
previous_to n l = record l { previous = n }

abbrev pub next_to : ℕ → Links → Links
next_to n l = record l { next = n }

abbrev pub childless : Links → Links
childless l = record l { first = 65536; last = 0 }

-- with another child of the parent after this one
unfoldable pub with_next : List Links → ℕ → ℕ → ℕ → List Links
with_next links parent n next =
    if n == 0 then changed (first_to next) links parent else changed (next_to next) links n

-- with another child of the parent before this one
unfoldable pub with_previous : List Links → ℕ → ℕ → ℕ → List Links
with_previous links parent n previous =
    if n == 65536 then changed (last_to previous) links parent
    else changed (previous_to previous) links n

-- with one child of the parent after another; 0 has no children that are linked
unfoldable pub with_link : List Links → ℕ → ℕ → ℕ → List Links
with_link links parent before after =
    if parent == 0 then links
    else with_previous (with_next links parent before after) parent after before

-- with a new number, the last child of the parent
unfoldable pub with_child_linked : List Links → ℕ → ℕ → List Links
with_child_linked links parent number =
    with_link (with_link (links ++ no_links ∷ []) parent (previous_in links parent 65536) number)
    parent number 65536

-- whether the links have room for one child after another
pub record IsLinkable (count parent before after : ℕ) : Type 0 where
  pub parent_within : parent ≤ count
  pub before_within : 0 < parent → before ≤ count
  pub after_from : 0 < parent → 0 < after
  pub after_low : 0 < parent → after ≤ 65536
  pub after_within : 0 < parent → after < 65536 → after ≤ count

-- ---- what the links say

-- j is the lowest number above i that passes; 65536 where none does
pub record IsNext (child : ℕ → Bool) (i j : ℕ) : Type 0 where
  pub above : i < j
  pub low : j ≤ 65536
  pub is : j < 65536 → child j ≡ true
  pub none : (k : ℕ) → i < k → k < j → child k ≡ false

-- From each child of a process, and from before the first, the links lead to the next in rising
-- number, and back.
pub record AreLinkedBy (count : ℕ) (child : ℕ → ℕ → Bool) (next previous : ℕ → ℕ → ℕ) : Type 0 where
  pub given : (p n : ℕ) → count < p → child p n ≡ false
  pub after : (p n : ℕ) → 0 < p → p ≤ count → (n ≡ 0) ⊎ (child p n ≡ true)
      → IsNext (child p) n (next p n)
  pub before : (p n : ℕ) → 0 < p → p ≤ count → (n ≡ 65536) ⊎ (child p n ≡ true)
      → ((previous p n ≡ 0) ⊎ (child p (previous p n) ≡ true)) × (next p (previous p n) ≡ n)

abbrev pub AreLinked : List Record → List Links → Type 0
AreLinked records links =
    AreLinkedBy (length records) (is_child_at records) (next_in links) (previous_in links)

-- The children of a process that was given a number can be walked along.
pub record IsWalkable (records : List Record) (links : List Links) (parent : ℕ) : Type 0 where
  pub linked : AreLinked records links
  pub count : length links ≡ length records
  pub few : length records ≤ 65535
  pub from : 0 < parent
  pub within : parent ≤ length records

-- Each record has its links, and the memory of both was taken.
pub record AreStored (records : List Record) (links : List Links) (room links_room : ℕ) : Type 0
  where
    pub linked : AreLinked records links
    pub count : length links ≡ length records
    pub few : length records ≤ 65535
    pub taken : 65535 ≤ room
    pub links_taken : 65535 ≤ links_room
