-- Numbers and bytes in hexadecimal digits. GDB remote protocol, gdb's manual, appendix E, section
-- "Overview". That a number has one to eight digits is this project's own rule.
use Rattle.std.specs.Prelude.{ℕ, zero, suc, ◌+◌, ◌-◌, ◌*◌, ◌/◌, ◌%◌, List, [], ◌∷◌, ◌++◌}
use Rattle.std.specs.Prelude.{length, flat_map, nat_lt, if◌then◌else◌, Option, Some, None}
use Rattle.std.specs.Prelude.{option_and_then}
use Rattle.std.specs.Int.{is_in_range, to_le_bytes, w32}

infixl 10 ◌>>=◌
abbrev pub ◌>>=◌ : {A B : Type 0} → Option A → (A → Option B) → Option B
o >>= f = option_and_then f o

-- ---- a digit

-- what it stands for, of either case
abbrev pub nibble_of : ℕ → Option ℕ
nibble_of c =
    if is_in_range 48 57 c then Some (c - 48)
    else if is_in_range 65 70 c then Some (c - 55)
    else if is_in_range 97 102 c then Some (c - 87)
    else None

-- as it is sent, in lower case
abbrev pub nibble_text : ℕ → ℕ
nibble_text n = if nat_lt n 10 then 48 + n else 87 + n

-- ---- a number

-- what n and then these digits stand for
abbrev pub nibbles_behind : ℕ → List ℕ → Option ℕ
nibbles_behind n [] = Some n
nibbles_behind n (c ∷ cs) = nibble_of c >>= λ d. nibbles_behind (n * 16 + d) cs

-- one to eight digits
abbrev pub number_from : List ℕ → Option ℕ
number_from text = if is_in_range 1 8 (length text) then nibbles_behind 0 text else None

-- as it is sent: without zeros in front, so many digits and one more at most
abbrev pub nibbles : (more n : ℕ) → List ℕ
nibbles zero n = nibble_text (n % 16) ∷ []
nibbles (suc more) n =
    if nat_lt n 16 then nibble_text n ∷ [] else nibbles more (n / 16) ++ nibble_text (n % 16) ∷ []

-- a number of 32 bits
unfoldable pub number_digits : ℕ → List ℕ
number_digits n = nibbles 7 n

-- ---- bytes, two digits each

-- a byte
abbrev pub byte_digits : ℕ → List ℕ
byte_digits b = nibble_text (b / 16) ∷ nibble_text (b % 16) ∷ []

-- bytes
abbrev pub bytes_digits : List ℕ → List ℕ
bytes_digits bytes = flat_map byte_digits bytes

-- the bytes that digits stand for
abbrev pub bytes_from : List ℕ → Option (List ℕ)
bytes_from [] = Some []
bytes_from (h ∷ []) = None
bytes_from (h ∷ l ∷ rest) = do
  high ← nibble_of h
  low ← nibble_of l
  bytes ← bytes_from rest
  Some ((high * 16 + low) ∷ bytes)

-- a register of 32 bits: its bytes in memory order. Section "Packets", `g`.
abbrev pub register_digits : ℕ → List ℕ
register_digits n = bytes_digits (to_le_bytes w32 n)
