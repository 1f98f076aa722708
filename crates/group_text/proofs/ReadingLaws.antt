-- What comes of a format's parts that were read one by one.
use Rattle.std.proofs.Common.{◌≡◌, ℕ, zero, suc, ◌≤◌, arith, Bool, true, false, cond, length, take}
use Rattle.std.proofs.Common.{drop, ltb, List, Result, Ok, Err, refl, ap, ◌∷◌, [], map, subst}
use Rattle.std.proofs.Common.{sym, ◌∙◌}
use Rattle.std.specs.Prelude.{◌==◌, nat_lt}
use Rattle.std.proofs.lemmas.Bool.{ltb-false}
use Rattle.std.proofs.lemmas.List.{length-take, length-take-le}
use Rattle.group_text.specs.GroupText.{ended_row, life_by_code, owned_row, frame_by_code}
use Rattle.group_text.specs.GroupText.{Header, header_row, group_row, body_row, group_body}
use Rattle.group_text.specs.GroupText.{BodyFields, to_group}
use Rattle.group_text.specs.Groups.{SavedGroup}
use Rattle.text_fields.specs.declared.refusal.FieldError.{FieldError}
use Rattle.text_fields.specs.declared.refusal.FieldError.TheVariants.{Short}
use Rattle.text_fields.specs.declared.refusal.RowError.{RowError}
use Rattle.text_fields.specs.declared.refusal.RowError.TheVariants.{Refused, Memory}
use Rattle.text_fields.specs.Formats.{Format, u8_in, ◌then◌, with_count, tagged}
use Rattle.text_fields.specs.Reading.{◌>>=◌, RefusesRow, GivesRow, first_bytes, field_place}

abbrev Read : Type 0 → Type 0
Read A = Result (A × List ℕ) FieldError

abbrev done : {A : Type 0} → A → Result A FieldError
done x = Ok x

-- what refuses a row refuses all that it begins
pub refuses_on : {A B : Type 0} (e : RowError) (r : Result A FieldError)
    (f : A → Result B FieldError) → RefusesRow e r → RefusesRow e (r >>= f)
refuses_on {A = A} (Refused d) r f is = ap (λ (r : Result A FieldError). r >>= f) is
refuses_on Memory r f is = tt

pub unmapped : {A : Type 0} (xs : List A) → map (λ (x : A). x) xs ≡ xs
unmapped [] = refl
unmapped (x ∷ xs) = ap (λ (l : List _). x ∷ l) (unmapped xs)

-- behind its first part a format reads on by the second
pub then_is : {A B : Type 0} (first : Format A) (second : A → Format B) (end : ℕ)
    (bytes : List ℕ) (x : A × List ℕ) → first.read end bytes ≡ Ok x
    → (first then second).read end bytes
    ≡ ((second x.0).read end x.1 >>= λ b. Ok ((x.0, b.0), b.1))
then_is {A = A} first second end bytes x is =
    ap (λ (r : Read A). r >>= λ a. (second a.0).read end a.1 >>= λ b. Ok ((a.0, b.0), b.1)) is

-- behind its count a list reads on by its elements
pub counted_is : {A : Type 0} (count : Format ℕ) (list : ℕ → Format (List A)) (end : ℕ)
    (bytes : List ℕ) (x : ℕ × List ℕ) → count.read end bytes ≡ Ok x
    → (with_count count list).read end bytes ≡ (list x.0).read end x.1
counted_is {A = A} count list end bytes x is =
    ap (λ (r : Read (ℕ × List A)). r >>= λ a. Ok (a.0.1, a.1)) (then_is count list end bytes x is)
    ∙ go ((list x.0).read end x.1)
  where
    paired : Read (List A) → Read (ℕ × List A)
    paired r = r >>= λ b. Ok ((x.0, b.0), b.1)

    go : (r : Read (List A))
        → (paired r >>= λ a. Ok (a.0.1, a.1)) ≡ r
    go (Ok y) = refl
    go (Err e) = refl

-- behind its tag a format reads on by the form of the tag
pub tagged_is : {A : Type 0} (tag : A → ℕ) (test : ℕ → Bool) (form : ℕ → Format A) (end : ℕ)
    (bytes : List ℕ) (x : ℕ × List ℕ) → (u8_in test).read end bytes ≡ Ok x
    → (tagged tag test form).read end bytes ≡ (form x.0).read end x.1
tagged_is tag test form end bytes x is =
    ap (λ (r : Read ℕ). r >>= λ n. (form n.0).read end n.1) is

-- elements that are seen as they are
pub plain : {V B A : Type 0} (items : V → List A) (behind : B → List ℕ)
    (r : Result (V × B) RowError) (read : Read (List A))
    → GivesRow (λ x. (map (λ (y : A). y) (items x.0), behind x.1)) r read
    → GivesRow (λ x. (items x.0, behind x.1)) r read
plain {A = A} items behind (Ok x) read is =
    is ∙ ap (λ (xs : List A). done (xs, behind x.1)) (unmapped (items x.0))
plain items behind (Err e) read is = is

-- behind its header a group reads on by its parts
pub group_is : (end : ℕ) (bytes : List ℕ) (x : Header × List ℕ) → header_row.read end bytes ≡ Ok x
    → group_row.read end bytes ≡ (body_row x.0).read end x.1
group_is end bytes x is =
    ap (λ (r : Read (Header × BodyFields)). r >>= λ a. Ok (to_group a.0, a.1))
    (then_is header_row group_body end bytes x is)
    ∙ go ((group_body x.0).read end x.1)
  where
    paired : Read BodyFields → Read (Header × BodyFields)
    paired r = r >>= λ b. Ok ((x.0, b.0), b.1)

    seen : Read BodyFields → Read SavedGroup
    seen r = r >>= λ a. Ok (to_group (x.0, a.0), a.1)

    go : (r : Read BodyFields) → (paired r >>= λ a. Ok (to_group a.0, a.1)) ≡ seen r
    go (Ok y) = refl
    go (Err e) = refl

-- ---- bytes

guard_ok : {A E : Type 0} (b : Bool) (d : E) (x y : A) → cond b (Err d) (Ok x) ≡ Ok y
    → (b ≡ false) × (x ≡ y)
guard_ok true d x y e = absurd cc
guard_ok false d x y e = (refl, cc)

-- so many were read
pub bytes_len : (n end : ℕ) (bytes : List ℕ) (x : List ℕ × List ℕ)
    → first_bytes n end bytes ≡ Ok x → length x.0 ≡ n
bytes_len n end bytes x is =
    let g = guard_ok (ltb (length bytes) n) (Short (field_place end bytes))
    (take n bytes, drop n bytes) x is in
    subst (λ (y : List ℕ × List ℕ). length y.0 ≡ n) g.1
    (omega (arith, length-take n bytes, ltb-false _ _ g.0))

-- ---- forms by their codes

pub ended_is : (frames code : ℕ) → 1 ≤ code → code ≤ 2
    → life_by_code frames code ≡ ended_row (code == 2)
ended_is frames zero low high = absurd (omega arith)
ended_is frames (suc zero) low high = refl
ended_is frames (suc (suc zero)) low high = refl
ended_is frames (suc (suc (suc n))) low high = absurd (omega arith)

pub owned_is : (given code : ℕ) → 2 ≤ code → frame_by_code given code ≡ owned_row given
owned_is given zero low = absurd (omega arith)
owned_is given (suc zero) low = absurd (omega arith)
owned_is given (suc (suc n)) low = refl

-- so many bytes that were read are so many
pub first_bytes_count : (n end : ℕ) (bytes xs rest : List ℕ)
    → first_bytes n end bytes ≡ Ok (xs, rest) → length xs ≡ n
first_bytes_count n end bytes xs rest e = by (nat_lt (length bytes) n) refl e
  where
    by : (b : Bool) → nat_lt (length bytes) n ≡ b
        → cond {A = Read (List ℕ)} b (Err (Short (field_place end bytes)))
        (Ok (take n bytes, drop n bytes)) ≡ Ok (xs, rest) → length xs ≡ n
    by true short e = cc
    by false long e =
        let both : ◌≡◌ {A = List ℕ × List ℕ} (take n bytes, drop n bytes) (xs, rest) = cc in
        ap (λ (p : List ℕ × List ℕ). length p.0) (sym both)
        ∙ length-take-le n bytes (ltb-false (length bytes) n long)
