-- Reading step by step: what comes of a step, what it took from the front, and what its row says.
use Rattle.std.proofs.Common.{◌≡◌, ℕ, Bool, true, false, cond, List, ◌++◌, Result, Ok, Err}
use Rattle.std.proofs.Common.{refl, sym, ap, ap₂, ◌∙◌, append_assoc}
use Rattle.text_fields.specs.declared.refusal.FieldError.{FieldError}
use Rattle.text_fields.specs.Formats.{Format}
use Rattle.text_fields.specs.Laws.{IsFormat}
use Rattle.text_fields.specs.Reading.{◌>>=◌}
use Rattle.log_text.specs.declared.refusal.LogError.{LogError}
use Rattle.log_text.specs.Bytes.{IsBytes}
use Rattle.log_text.specs.Reading.{as_row}

-- the value of a step that did not fail
pub bind_ok : {A B : Type 0} (r : Result A LogError) (f : A → Result B LogError) (y : B)
    → (r >>= f) ≡ Ok y → (x : A) × (r ≡ Ok x) × (f x ≡ Ok y)
bind_ok (Ok x) f y e = (x, refl, e)
bind_ok (Err d) f y e = absurd cc

-- what comes of a step's value
pub goes : {A B : Type 0} (r : Result A LogError) (f : A → Result B LogError) (x : A)
    → r ≡ Ok x → (r >>= f) ≡ f x
goes {A = A} r f x is = ap (λ (r : Result A LogError). r >>= f) is

-- a test that did not fail
pub guard_true : {A : Type 0} (b : Bool) (d : LogError) (x y : A) → cond b (Ok x) (Err d) ≡ Ok y
    → (b ≡ true) × (x ≡ y)
guard_true true d x y e = (refl, cc)
guard_true false d x y e = absurd cc

abbrev pub done : {A : Type 0} → A → Result A LogError
done x = Ok x

pub ok_is : {A : Type 0} (x y : A) → done x ≡ done y → x ≡ y
ok_is x y e = cc

-- what a reader took from the front
pub record Takes (bytes text rest : List ℕ) : Type 0 where
  pub parts : bytes ≡ text ++ rest
  pub rest_fits : IsBytes rest

pub then : (a x b y c : List ℕ) → Takes a x b → Takes b y c → Takes a (x ++ y) c
then a x b y c p q =
    record {
      parts = p.parts ∙ ap (λ (t : List ℕ). x ++ t) q.parts
          ∙ sym (append_assoc x y c);
      rest_fits = q.rest_fits;
    }

-- ---- a row, refused as a log is

abbrev done_row : {A : Type 0} → A → Result A FieldError
done_row x = Ok x

row_ok : {A : Type 0} (wrong : ℕ → LogError) (r : Result A FieldError) (x : A)
    → as_row wrong r ≡ Ok x → r ≡ Ok x
row_ok wrong (Ok y) x e = ap (λ z. done_row z) (ok_is y x e)
row_ok wrong (Err d) x e = absurd cc

-- it took its text, and what was read fits
pub record TakesRow {A : Type 0} (form : Format A) (bytes : List ℕ) (x : A × List ℕ) : Type 0
  where
    pub takes : Takes bytes (form.text x.0) x.1
    pub fits : form.Fits x.0

module _ {A : Type 0} (form : Format A) (is : IsFormat form) (wrong : ℕ → LogError) where
  pub row_takes : (end : ℕ) (bytes : List ℕ) (x : A × List ℕ) → IsBytes bytes
      → as_row wrong (form.read end bytes) ≡ Ok x → TakesRow form bytes x
  row_takes end bytes x fits e =
      let s = is.spells end bytes x fits (row_ok wrong (form.read end bytes) x e) in
      record { takes = record { parts = s.parts; rest_fits = s.rest }; fits = s.fits }

  pub row_again : (end : ℕ) (a : A) (rest : List ℕ) → form.Fits a
      → as_row wrong (form.read end (form.text a ++ rest)) ≡ Ok (a, rest)
  row_again end a rest fits =
      ap (λ (r : Result (A × List ℕ) FieldError). as_row wrong r) (is.again end a rest fits)

-- ---- a text that is put piece by piece

-- one more piece, behind what was put before
pub put_more : (old before piece bytes text new : List ℕ) → text ≡ old ++ before → piece ≡ bytes
    → new ≡ text ++ piece → new ≡ old ++ (before ++ bytes)
put_more old before piece bytes text new so_far is more =
    more ∙ ap₂ (λ (x y : List ℕ). x ++ y) so_far is ∙ append_assoc old before bytes
