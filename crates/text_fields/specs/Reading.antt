-- Reading fields from left to right. Each is tested as soon as it is read, and the first that is
-- wrong is answered with its place. This project's own rule; numbers are little-endian.
use Rattle.std.specs.Prelude.{◌-◌, ℕ, zero, suc, Bool, List, [], ◌∷◌, length, take, drop, Result}
use Rattle.std.specs.Prelude.{Ok, Err, nat_lt, if◌then◌else◌, ◌≡◌, ⊤}
use Rattle.std.specs.Int.{Width, byte_len, from_le_bytes}
use Rattle.text_fields.specs.declared.refusal.FieldError.{FieldError}
use Rattle.text_fields.specs.declared.refusal.FieldError.TheVariants.{Short, Range}
use Rattle.text_fields.specs.declared.refusal.RowError.{RowError}
use Rattle.text_fields.specs.declared.refusal.RowError.TheVariants.{Refused, Memory}

-- A reader is given the length of the whole text and the bytes that are left of it, and answers a
-- value and the bytes behind it.
abbrev pub FieldReader : Type 0 → Type 0
FieldReader A = ℕ → List ℕ → Result (A × List ℕ) FieldError

-- So a place is that length less what is left.
abbrev pub field_place : ℕ → List ℕ → ℕ
field_place end bytes = end - length bytes

-- the first refusal, or what comes of the value
infixl 10 ◌>>=◌
abbrev pub ◌>>=◌ : {A B E : Type 0} → Result A E → (A → Result B E) → Result B E
(Ok x) >>= f = f x
(Err e) >>= f = Err e

-- ---- fields

-- so many bytes
abbrev pub first_bytes : ℕ → FieldReader (List ℕ)
first_bytes n end bytes =
    if nat_lt (length bytes) n then Err (Short (field_place end bytes))
    else Ok (take n bytes, drop n bytes)

-- one byte
abbrev pub first_byte : FieldReader ℕ
first_byte end [] = Err (Short (field_place end []))
first_byte end (b ∷ bytes) = Ok (b, bytes)

-- a number
abbrev pub first_number : Width → FieldReader ℕ
first_number w end bytes = do
  text ← first_bytes (byte_len w) end bytes
  Ok (from_le_bytes w text.0, text.1)

-- what was read at a place, if it passes
abbrev pub passing : {A : Type 0} → (A → Bool) → ℕ → A × List ℕ → Result (A × List ℕ) FieldError
passing test at read = if test read.0 then Ok read else Err (Range at)

-- ---- lists

-- So many elements. The reader of each goes by what came before it: S is what is known then.
module _ {A S : Type 0} (one : S → FieldReader A) (next : S → A → S) where
  unfoldable pub read_list : ℕ → S → FieldReader (List A)
  read_list zero s end bytes = Ok ([], bytes)
  read_list (suc n) s end bytes = do
    first ← one s end bytes
    others ← read_list n (next s first.0) end first.1
    Ok (first.0 ∷ others.0, others.1)

-- ---- what a function that reads returns

-- What it returned, seen by view, is what reading gives.
abbrev pub GivesField : {X Y : Type 0} → (X → Y) → Result X FieldError → Result Y FieldError
    → Type 0
GivesField view (Ok x) read = read ≡ Ok (view x)
GivesField view (Err e) read = read ≡ Err e

-- Why there is no value: the refusal that reading gives; or memory ran out, wherever that was.
abbrev pub RefusesRow : {Y : Type 0} → RowError → Result Y FieldError → Type 0
RefusesRow (Refused e) read = read ≡ Err e
RefusesRow Memory read = ⊤

-- What a function returned whose value takes memory, seen by view, is what reading gives.
abbrev pub GivesRow : {X Y : Type 0} → (X → Y) → Result X RowError → Result Y FieldError → Type 0
GivesRow view (Ok x) read = read ≡ Ok (view x)
GivesRow view (Err e) read = RefusesRow e read
