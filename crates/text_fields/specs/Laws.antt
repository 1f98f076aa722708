-- What holds of a format, and that each way to make one makes one.
use Rattle.std.specs.Prelude.{ℕ, ◌≡◌, Bool, List, ◌++◌, length, Ok}
use Rattle.text_fields.specs.Formats.{Format, AreBytes, bytes, u8_in, u16_in, u32_in, u64_in}
use Rattle.text_fields.specs.Formats.{◌then◌, seen_as, tagged, listed, with_count}

-- what was read is spelled in front, and fits
pub record Spells {A : Type 0} (form : Format A) (bytes : List ℕ) (x : A × List ℕ) : Type 0 where
  pub parts : bytes ≡ form.text x.0 ++ x.1
  pub rest : AreBytes x.1
  pub fits : form.Fits x.0

-- What is read was written so, and what was written is read again.
pub record IsFormat {A : Type 0} (form : Format A) : Type 0 where
  pub spells : (end : ℕ) (bytes : List ℕ) (x : A × List ℕ) → AreBytes bytes
      → form.read end bytes ≡ Ok x → Spells form bytes x
  pub again : (end : ℕ) (a : A) (rest : List ℕ) → form.Fits a
      → form.read end (form.text a ++ rest) ≡ Ok (a, rest)

-- Each way to make a format makes one where this holds. No contract says it, since it speaks of all
-- types; proofs/FormatLaws proves it.
pub record WaysMakeFormats : Type 1 where
  pub some_bytes : (n : ℕ) → IsFormat (bytes n)
  pub one_byte : (test : ℕ → Bool) → IsFormat (u8_in test)
  pub two_bytes : (test : ℕ → Bool) → IsFormat (u16_in test)
  pub four_bytes : (test : ℕ → Bool) → IsFormat (u32_in test)
  pub eight_bytes : (test : ℕ → Bool) → IsFormat (u64_in test)
  pub one_then_another : {A B : Type 0} (first : Format A) (second : A → Format B) → IsFormat first
      → ((a : A) → first.Fits a → IsFormat (second a)) → IsFormat (first then second)
  -- what is made of what was read is read as that again
  pub seen_otherwise : {A B : Type 0} (to : A → B) (from : B → A) (form : Format A) → IsFormat form
      → ((a : A) → form.Fits a → from (to a) ≡ a) → IsFormat (seen_as to from form)
  -- what fits the form of a tag has that tag
  pub by_a_tag : {A : Type 0} (tag : A → ℕ) (test : ℕ → Bool) (form : ℕ → Format A)
      → ((n : ℕ) → (u8_in test).Fits n → IsFormat (form n))
      → ((n : ℕ) (a : A) → (u8_in test).Fits n → (form n).Fits a → tag a ≡ n)
      → IsFormat (tagged tag test form)
  pub list : {A S : Type 0} (one : S → Format A) (next : S → A → S) → ((s : S) → IsFormat (one s))
      → (n : ℕ) (s : S) → IsFormat (listed one next n s)
  -- a list that fits a count has so many elements
  pub behind_a_count : {A : Type 0} (count : Format ℕ) (lists : ℕ → Format (List A))
      → IsFormat count → ((n : ℕ) → IsFormat (lists n))
      → ((n : ℕ) (xs : List A) → (lists n).Fits xs → length xs ≡ n)
      → IsFormat (with_count count lists)
