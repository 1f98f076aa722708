-- A format says three things of a value by one description: its text, which values have one, and
-- how it is read, with the first refusal. This project's own rule; numbers are little-endian.
use Rattle.std.specs.Prelude.{ℕ, zero, suc, ◌^◌, ◌<◌, ◌≡◌, Bool, true, ◌&&◌, List, [], ◌∷◌, ◌++◌}
use Rattle.std.specs.Prelude.{length, slice_index, Ok, ⊤, ◌==◌, nat_le}
use Rattle.std.specs.Int.{Width, w16, w32, w64, byte_len, to_le_bytes}
use Rattle.text_fields.specs.Reading.{FieldReader, field_place, ◌>>=◌, first_bytes, first_byte}
use Rattle.text_fields.specs.Reading.{first_number, passing, read_list}

pub record Format (A : Type 0) : Type 1 where
  pub text : A → List ℕ
  pub Fits : A → Type 0
  pub read : FieldReader A

-- Each of these numbers is a byte; behind the list's end reads 0.
abbrev pub AreBytes : List ℕ → Type 0
AreBytes bytes = (i : ℕ) → slice_index bytes i < 256

-- ---- fields

-- so many bytes
abbrev pub bytes : ℕ → Format (List ℕ)
bytes n = record {
  text = λ xs. xs;
  Fits = λ xs. (length xs ≡ n) × AreBytes xs;
  read = first_bytes n;
}

-- a number of so many bits that passes
abbrev pub number_in : Width → (ℕ → Bool) → Format ℕ
number_in w test = record {
  text = to_le_bytes w;
  Fits = λ n. (n < 256 ^ byte_len w) × (test n ≡ true);
  read = λ end bytes. first_number w end bytes >>= passing test (field_place end bytes);
}

abbrev pub u16_in : (ℕ → Bool) → Format ℕ
u16_in test = number_in w16 test

abbrev pub u32_in : (ℕ → Bool) → Format ℕ
u32_in test = number_in w32 test

abbrev pub u64_in : (ℕ → Bool) → Format ℕ
u64_in test = number_in w64 test

-- a byte that passes
abbrev pub u8_in : (ℕ → Bool) → Format ℕ
u8_in test = record {
  text = λ n. n ∷ [];
  Fits = λ n. (n < 256) × (test n ≡ true);
  read = λ end bytes. first_byte end bytes >>= passing test (field_place end bytes);
}

-- ---- one behind the other

-- one thing, and behind it another that goes by it
infixr 5 ◌then◌
abbrev pub ◌then◌ : {A B : Type 0} → Format A → (A → Format B) → Format (A × B)
first then second = record {
  text = λ x. first.text x.0 ++ (second x.0).text x.1;
  Fits = λ x. first.Fits x.0 × (second x.0).Fits x.1;
  read = λ end bytes. do
    a ← first.read end bytes
    b ← (second a.0).read end a.1
    Ok ((a.0, b.0), b.1);
}

-- The same text for another value: to makes that of what is read, and from is what it is read as.
abbrev pub seen_as : {A B : Type 0} → (A → B) → (B → A) → Format A → Format B
seen_as to from form = record {
  text = λ b. form.text (from b);
  Fits = λ b. form.Fits (from b) × (to (from b) ≡ b);
  read = λ end bytes. do
    a ← form.read end bytes
    Ok (to a.0, a.1);
}

-- One of several forms, by the tag in front of it, a byte that passes.
abbrev pub tagged : {A : Type 0} → (A → ℕ) → (ℕ → Bool) → (ℕ → Format A) → Format A
tagged tag test form = record {
  text = λ a. tag a ∷ (form (tag a)).text a;
  Fits = λ a. (u8_in test).Fits (tag a) × (form (tag a)).Fits a;
  read = λ end bytes. do
    n ← (u8_in test).read end bytes
    (form n.0).read end n.1;
}

-- ---- lists

-- The format of each element goes by what came before it: S is what is known then.
module _ {A S : Type 0} (one : S → Format A) (next : S → A → S) where
  abbrev pub list_text : S → List A → List ℕ
  list_text s [] = []
  list_text s (x ∷ xs) = (one s).text x ++ list_text (next s x) xs

  abbrev pub ListFits : ℕ → S → List A → Type 0
  ListFits zero s [] = ⊤
  ListFits zero s (x ∷ xs) = ⊥
  ListFits (suc n) s [] = ⊥
  ListFits (suc n) s (x ∷ xs) = (one s).Fits x × ListFits n (next s x) xs

  -- so many, from what is known at first
  abbrev pub listed : ℕ → S → Format (List A)
  listed n s = record {
    text = list_text s;
    Fits = ListFits n s;
    read = read_list (λ s. (one s).read) next n s;
  }

-- so many of one form
abbrev pub many : {A : Type 0} → ℕ → Format A → Format (List A)
many n form = listed (λ (s : ℕ). form) (λ s x. s) n 0

-- so many in rising order: the form of each is given the least number that it may have
abbrev pub ascending : {A : Type 0} → (A → ℕ) → (ℕ → Format A) → ℕ → ℕ → Format (List A)
ascending number one n least = listed one (λ s x. suc (number x)) n least

-- how many there are, and these
abbrev pub with_count : {A : Type 0} → Format ℕ → (ℕ → Format (List A)) → Format (List A)
with_count count list = seen_as (λ x. x.1) (λ xs. (length xs, xs)) (count then list)

-- ---- ranges

-- whether a number is in a range
abbrev pub from_to : ℕ → ℕ → ℕ → Bool
from_to low high n = nat_le low n && nat_le n high

-- whether it is this one
abbrev pub just : ℕ → ℕ → Bool
just only n = n == only

-- each
abbrev pub any : ℕ → Bool
any n = true
