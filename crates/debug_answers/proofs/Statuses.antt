-- The status of a file as it is told.
use Rattle.std.proofs.Common.{◌≡◌, ◌++◌, ◌∙◌, ℕ, List, ◌∷◌, ap}
use Rattle.std.specs.Prelude.{replicate}
use Rattle.std.specs.Int.{to_be_bytes, w64}
use Rattle.std.proofs.lemmas.List.Concat.{flat_map-append}
use Rattle.gdb_packets.specs.Escapes.{escaped, escaped_byte}
use Rattle.debug_session.specs.Files.{status_bytes}

-- what stands before the length
abbrev pub mode : List ℕ
mode = replicate 8 0 ++ 0x00 ∷ 0x00 ∷ 0x81 ∷ 0xa4 ∷ replicate 16 0

pub status_is : (n : ℕ)
    → escaped (status_bytes n) ≡ mode ++ escaped (to_be_bytes w64 n) ++ replicate 28 0
status_is n =
    let count : List ℕ = to_be_bytes w64 n in
    flat_map-append escaped_byte (mode ++ count) (replicate 28 0)
    ∙ ap (λ (t : List ℕ). t ++ replicate 28 0) (flat_map-append escaped_byte mode count)
