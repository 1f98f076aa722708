-- Bytes of a file or a text in an answer. GDB remote protocol, gdb's manual, appendix E, section
-- "Overview", binary data.
use Rattle.std.specs.Prelude.{ℕ, ◌==◌, Bool, ◌||◌, List, [], ◌∷◌, Option, Some, None, flat_map}
use Rattle.std.specs.Prelude.{if◌then◌else◌, option_map, bit_xor}

-- `#`, `$`, `*` and `}`
abbrev pub must_escape : ℕ → Bool
must_escape b = b == 35 || (b == 36 || (b == 42 || b == 125))

-- `}` and the byte xor 20, where it must
abbrev pub escaped_byte : ℕ → List ℕ
escaped_byte b = if must_escape b then 125 ∷ bit_xor b 32 ∷ [] else b ∷ []

abbrev pub escaped : List ℕ → List ℕ
escaped bytes = flat_map escaped_byte bytes

-- with a byte in front
abbrev pub in_front_of : ℕ → Option (List ℕ) → Option (List ℕ)
in_front_of b bytes = option_map (λ rest. b ∷ rest) bytes

-- the bytes that are sent so; none where a `}` stands last
abbrev pub unescaped : List ℕ → Option (List ℕ)
unescaped [] = Some []
unescaped (c ∷ []) = if c == 125 then None else Some (c ∷ [])
unescaped (c ∷ d ∷ cs) =
    if c == 125 then in_front_of (bit_xor d 32) (unescaped cs)
    else in_front_of c (unescaped (d ∷ cs))
