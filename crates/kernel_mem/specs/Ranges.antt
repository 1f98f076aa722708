-- Runs of pages that a service is given. This project's own rules.
use Rattle.std.specs.Prelude.{ℕ, ◌+◌, ◌*◌, ◌%◌, Bool, ◌&&◌, List, Result, Ok, Err, is_some, ◌==◌}
use Rattle.std.specs.Prelude.{nat_lt, nat_le}
use Rattle.std.specs.List.{list_all, list_any}
use Rattle.dos_world.specs.Numbered.{run_of}
use Rattle.dos_world.specs.World.{World, look}
use Rattle.dos_world.specs.Calls.{Call}
use Rattle.dos_world.specs.declared.Entry.{Entry}

-- t's call of a service of memory: an address, how many pages from there on, and rights
abbrev pub range_call : World → ℕ → ℕ → ℕ → ℕ → ℕ → Call
range_call w t p address pages rights =
    record { world = w; thread = t; process = p; a0 = address; a1 = pages; a2 = rights }

-- whether an address begins a page, there is a page, and all of them lie within 0x1000 to
-- 0xEFFFFFFF
abbrev pub are_range : ℕ → ℕ → Bool
are_range address pages =
    (address % 4096 == 0) && nat_lt 0 pages
    && nat_le 0x1000 address && nat_le (address + 4096 * pages) 0xF0000000

-- whether each of so many pages from this one on is mapped
abbrev pub maps_all : List (ℕ × Entry) → ℕ → ℕ → Bool
maps_all space page count = list_all (λ p. is_some (look space p)) (run_of page count)

-- whether one of them is
abbrev pub maps_any : List (ℕ × Entry) → ℕ → ℕ → Bool
maps_any space page count = list_any (λ p. is_some (look space p)) (run_of page count)

-- what a service of memory comes to: the world after it, or the refusal
abbrev pub result_in : {A : Type 0} → Result A ℕ → World → Result World ℕ
result_in (Ok x) w = Ok w
result_in (Err code) w = Err code
