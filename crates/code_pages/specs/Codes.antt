-- The code in a page: a halfword alone, whose low two bits aren't 11, or a word of two halfwords,
-- the lower first. RISC-V unprivileged manual, edition 20191213, section 1.5.
use Rattle.std.specs.Prelude.{ℕ, ◌≡◌, ◌≢◌, ◌+◌, ◌%◌, ◌≤◌, ◌⊎◌, ◌==◌, List, take, drop}
use Rattle.std.specs.Prelude.{if◌then◌else◌}
use Rattle.dos_world.specs.Bytes.{number_of}

-- a code's size in bytes
abbrev pub code_size : ℕ → ℕ
code_size code = if code % 4 == 3 then 4 else 2

-- At this offset of a page stands this code, all of it.
abbrev pub IsCodeIn : List ℕ → (offset code : ℕ) → Type 0
IsCodeIn bytes offset code =
    ((code % 4 ≢ 3) × (code ≡ number_of (take 2 (drop offset bytes))))
    ⊎ ((code % 4 ≡ 3) × (offset + 4 ≤ 4096) × (code ≡ number_of (take 4 (drop offset bytes))))
