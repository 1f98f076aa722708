-- Numbers and posts as the words spell them. This project's own rule.
use Rattle.std.specs.Prelude.{ℕ, ◌+◌, ◌-◌, ◌*◌, Bool, false, not, ◌&&◌, List, [], ◌∷◌, length, fold}
use Rattle.std.specs.Prelude.{Option, Some, None, option_and_then, ◌==◌, nat_le, if◌then◌else◌}
use Rattle.std.specs.Char.{is_ascii_digit}
use Rattle.std.specs.Int.{is_in_range}
use Rattle.std.specs.List.{list_all}
use Rattle.dos_world.specs.declared.Post.{Post}

-- the bytes of a text
abbrev pub Text : Type 0
Text = List ℕ

infixl 10 ◌>>=◌
abbrev pub ◌>>=◌ : {A B : Type 0} → Option A → (A → Option B) → Option B
o >>= f = option_and_then f o

-- ---- a number: one to twenty decimal digits without a leading zero, or `0`

-- `0` and more behind it
abbrev pub has_leading_zero : Text → Bool
has_leading_zero (c ∷ d ∷ cs) = c == 48
has_leading_zero _ = false

-- whether it is spelled so
abbrev pub is_number : Text → Bool
is_number text =
    is_in_range 1 20 (length text) && list_all is_ascii_digit text && not (has_leading_zero text)

-- what the digits come to; `0` is 48
abbrev pub decimal_value : Text → ℕ
decimal_value text = fold (λ n c. 10 * n + (c - 48)) 0 text

-- the number that is spelled so
abbrev pub number : Text → Option ℕ
number text = if is_number text then Some (decimal_value text) else None

-- the number, if it is in the range
abbrev pub where_within : (low high : ℕ) → ℕ → Option ℕ
where_within low high n = if is_in_range low high n then Some n else None

-- a number in a range
abbrev pub number_within : (low high : ℕ) → Text → Option ℕ
number_within low high text = number text >>= where_within low high

-- ---- the parts of a text between separators; there is always one

-- with a byte in front of the first text
abbrev pub with_first : ℕ → List Text → List Text
with_first c [] = (c ∷ []) ∷ []
with_first c (text ∷ texts) = (c ∷ text) ∷ texts

-- cut at each separator
abbrev pub parts_by : ℕ → Text → List Text
parts_by separator [] = [] ∷ []
parts_by separator (c ∷ cs) =
    if c == separator then [] ∷ parts_by separator cs else with_first c (parts_by separator cs)

-- ---- posts: ROUND:PID:SIGNAL, one to 32 of them, joined by commas

-- `:`
abbrev pub colon : ℕ
colon = 58

-- `,`
abbrev pub comma : ℕ
comma = 44

-- of the three parts of an item
abbrev pub post_in : List Text → Option (ℕ × Post)
post_in (round ∷ pid ∷ signal ∷ []) = do
  r ← number_within 1 1000000 round
  p ← number_within 1 65535 pid
  s ← number_within 1 31 signal
  Some (r, record { pid = p; signal = s })
post_in _ = None

-- of all items
abbrev pub posts_in_all : List Text → Option (List (ℕ × Post))
posts_in_all [] = Some []
posts_in_all (item ∷ items) = do
  post ← post_in (parts_by colon item)
  posts ← posts_in_all items
  Some (post ∷ posts)

-- of the option's value
abbrev pub posts_from : Text → Option (List (ℕ × Post))
posts_from text =
    let items : List Text = parts_by comma text in
    if nat_le (length items) 32 then posts_in_all items else None
