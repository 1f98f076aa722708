-- What an access of a thread reaches, and what granting a page does. This project's own rules.
use Rattle.std.specs.Prelude.{ℕ, ◌+◌, ◌*◌, ◌%◌, Bool, true, false, not, Option, Some, None, ◌==◌}
use Rattle.std.specs.Prelude.{if◌then◌else◌, slice_set}
use Rattle.dos_world.specs.World.{World, Entry, entry_at, owner_of, page_size}
use Rattle.dos_world.specs.declared.Access.{Access}
use Rattle.dos_world.specs.declared.Access.TheVariants.{Fetch, Load, Store, Claim}
use Rattle.dos_world.specs.declared.Size.{Size}
use Rattle.dos_world.specs.declared.Size.TheVariants.{Byte, Half, Word}
use Rattle.dos_world.specs.declared.Owner.{Owner}
use Rattle.dos_world.specs.declared.Owner.TheVariants.{Shared, Of}
pub use Rattle.dos_world.specs.Bytes.{number_of, bytes_of, loaded, written, stored, with_page}

-- the bytes of a size. RISC-V unprivileged manual, edition 20191213, section 1.4.
abbrev pub width : Size → ℕ
width Byte = 1
width Half = 2
width Word = 4

-- A fault by its number, a frame that is foreign to the thread, or the place in the flat list of
-- bytes.
pub data Reached : Type 0 where
  fault : (number : ℕ) → Reached
  foreign : (frame : ℕ) → Reached
  at : (place : ℕ) → Reached

-- Every mapped page is readable; a store or a claim needs W, a fetch X.
abbrev pub has_right : Access → Entry → Bool
has_right Fetch e = e.exec
has_right Load e = true
has_right Store e = e.write
has_right Claim e = e.write

-- A fetch or load is foreign where the owner is another thread, a store or claim where the owner
-- isn't t.
abbrev pub is_foreign : ℕ → Access → Owner → Bool
is_foreign t access (Of s) = not (s == t)
is_foreign t Fetch _ = false
is_foreign t Load _ = false
is_foreign t Store _ = true
is_foreign t Claim _ = true

-- what an aligned access reaches by the entry of its page: 11 where there is none, or where it
-- lacks the right
abbrev pub in_frame : World → ℕ → ℕ → Access → Option Entry → Reached
in_frame w t address access None = fault 11
in_frame w t address access (Some e) =
    if not (has_right access e) then fault 11
    else (if is_foreign t access (owner_of w e.frame) then foreign e.frame
    else at (page_size * e.frame + address % page_size))

-- The order of the tests: misaligned, not mapped, no right, foreign.
abbrev pub reach : World → ℕ → ℕ → Size → Access → Reached
reach w t address size access =
    if not (address % width size == 0) then fault 7
    else in_frame w t address access (entry_at w t address)

-- Granting a fetch or load makes the frame Shared, granting a store or claim makes it t's.
abbrev pub granted : ℕ → Access → Owner
granted t Fetch = Shared
granted t Load = Shared
granted t Store = Of t
granted t Claim = Of t

-- the world in which a frame is granted to t: only its owner changes
abbrev pub grant : World → ℕ → ℕ → Access → World
grant w t frame access = record w { owners = slice_set w.owners frame (granted t access) }
