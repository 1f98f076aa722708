-- The bytes that a service reads from its caller's memory or writes to it, page by page granted.
-- This project's own rules.
use Rattle.std.specs.Prelude.{ℕ, zero, suc, Bool, true, false, ◌&&◌, List, [], ◌∷◌}
use Rattle.dos_world.specs.World.{World}
use Rattle.dos_world.specs.Bytes.{loaded, stored}
use Rattle.dos_world.specs.Reach.{Reached, fault, foreign, at, reach, grant}
use Rattle.dos_world.specs.declared.Access.{Access}
use Rattle.dos_world.specs.declared.Access.TheVariants.{Load, Store}
use Rattle.dos_world.specs.declared.Size.TheVariants.{Byte}

-- whether an access comes to a frame, foreign or not
abbrev pub is_reached : Reached → Bool
is_reached (fault n) = false
is_reached (foreign frame) = true
is_reached (at place) = true

-- whether each of n addresses is mapped, and where it is to be written has W
abbrev pub all_reach : World → ℕ → ℕ → ℕ → Access → Bool
all_reach w t address zero access = true
all_reach w t address (suc n) access =
    is_reached (reach w t address Byte access) && all_reach w t (suc address) n access

-- the world in which the frame at an address is granted, where it is foreign
abbrev pub opened : World → ℕ → ℕ → Access → World
opened w t address access =
    elim (reach w t address Byte access)
    [ fault n ↦ w | foreign frame ↦ grant w t frame access | at place ↦ w ]

-- The place of an address whose access goes on. A service asks for no other.
abbrev pub place_of : World → ℕ → ℕ → Access → ℕ
place_of w t address access =
    elim (reach w t address Byte access) [ fault n ↦ 0 | foreign frame ↦ 0 | at place ↦ place ]

-- n bytes from an address on, read one by one, with the world in which their pages are granted
abbrev pub copied_in : World → ℕ → ℕ → ℕ → World × List ℕ
copied_in w t address zero = (w, [])
copied_in w t address (suc n) =
    let open_world : World = opened w t address Load in
    let rest : World × List ℕ = copied_in open_world t (suc address) n in
    (rest.0, loaded open_world (place_of open_world t address Load) 1 ∷ rest.1)

-- the world with a byte written at an address, where a store there goes on
abbrev pub byte_stored : World → ℕ → ℕ → ℕ → World
byte_stored w t address b =
    elim (reach w t address Byte Store)
    [ fault n ↦ w | foreign frame ↦ w | at place ↦ stored w place (b ∷ []) ]

-- the world with bytes written one by one from an address on, their pages granted
abbrev pub copied_out : World → ℕ → ℕ → List ℕ → World
copied_out w t address [] = w
copied_out w t address (b ∷ bytes) =
    copied_out (byte_stored (opened w t address Store) t address b) t (suc address) bytes
