-- A saved group_row that is read is the one that was written, and what was written is read again.
use Rattle.std.proofs.Common.{◌≡◌, ℕ, zero, suc, ◌<◌, eqb, Bool, true, false, cond, List, []}
use Rattle.std.proofs.Common.{◌++◌, length, Result, Ok, Err, refl, ap, subst, ◌∙◌}
use Rattle.std.proofs.Common.{arith}
use Rattle.std.specs.Prelude.{slice_index}
use Rattle.std.specs.Int.{w16, to_le_bytes}
use Rattle.std.specs.Str.{bytes_eq}
use Rattle.std.proofs.lemmas.Bool.{eqb-true}
use Rattle.std.proofs.lemmas.List.{append-nil, nil_from_length}
use Rattle.std.proofs.lemmas.Slice.Eq.{bytes_eq-Decides}
use Rattle.text_fields.specs.declared.refusal.FieldError.{FieldError}
use Rattle.text_fields.specs.Reading.{field_place, ◌>>=◌, first_bytes, first_number, passing}
use Rattle.text_fields.specs.Formats.{AreBytes, any}
use Rattle.text_fields.proofs.FormatLaws.{bind_ok, bytes_format, number_format, wide16}
use Rattle.group_text.specs.declared.refusal.GroupRefusal.{GroupRefusal}
use Rattle.group_text.specs.declared.refusal.GroupRefusal.TheVariants as refusal
use Rattle.group_text.specs.Groups.{SavedGroup}
use Rattle.group_text.specs.GroupText.{group_magic, group_version, group_row, grouptext}
use Rattle.group_text.specs.Reading.{from_field, past_magic, past_version, group_in_text}
use Rattle.group_text.specs.Reading.{GroupsAreSpelled}
use Rattle.group_text.proofs.RowLaws.{group_format}

abbrev done : {A : Type 0} → A → Result A GroupRefusal
done x = Ok x

ok_is : {A : Type 0} (x y : A) → done x ≡ done y → x ≡ y
ok_is x y e = cc

field_ok : {A : Type 0} (r : Result A FieldError) (x : A) → from_field r ≡ Ok x → r ≡ Ok x
field_ok {A = A} (Ok y) x e = ap (λ (z : A). Ok z) (ok_is y x e)
field_ok (Err d) x e = absurd cc

guard_true : {A : Type 0} (b : Bool) (d : GroupRefusal) (x y : A) → cond b (Ok x) (Err d) ≡ Ok y
    → (b ≡ true) × (x ≡ y)
guard_true true d x y e = (refl, cc)
guard_true false d x y e = absurd cc

goes : {A B : Type 0} (r : Result A GroupRefusal) (f : A → Result B GroupRefusal) (x : A) → r ≡ Ok x
    → (r >>= f) ≡ f x
goes {A = A} r f x is = ap (λ (r : Result A GroupRefusal). r >>= f) is

-- what was taken from the front
record Takes (bytes text rest : List ℕ) : Type 0 where
  pub parts : bytes ≡ text ++ rest
  pub rest_fits : AreBytes rest

magic_takes : (end : ℕ) (text rest : List ℕ) → AreBytes text → past_magic end text ≡ Ok rest
    → Takes text group_magic rest
unfolding past_magic
magic_takes end text rest fits e =
    let a = bind_ok (from_field (first_bytes 4 end text)) _ rest e in
    let s = (bytes_format 4).spells end text a.0 fits (field_ok (first_bytes 4 end text) a.0 a.1) in
    let g = guard_true (bytes_eq a.0.0 group_magic) refusal.Magic a.0.1 rest a.2 in
    subst (λ (r : List ℕ). Takes text group_magic r) g.1
    (record {
      parts = subst (λ (m : List ℕ). text ≡ m ++ a.0.1) ((bytes_eq-Decides a.0.0 group_magic).0 g.0)
          s.parts;
      rest_fits = s.rest;
    })

version_takes : (end : ℕ) (text rest : List ℕ) → AreBytes text → past_version end text ≡ Ok rest
    → Takes text (to_le_bytes w16 group_version) rest
unfolding past_version
version_takes end text rest fits e =
    let a = bind_ok (from_field (first_number w16 end text)) _ rest e in
    let read : first_number w16 end text ≡ Ok a.0 = field_ok (first_number w16 end text) a.0 a.1 in
    let s = (number_format w16 wide16 any).spells end text a.0 fits
    (ap (λ (r : Result (ℕ × List ℕ) FieldError). r >>= passing any (field_place end text)) read) in
    let g = guard_true (eqb a.0.0 group_version) (refusal.Version a.0.0) a.0.1 rest a.2 in
    subst (λ (r : List ℕ). Takes text (to_le_bytes w16 group_version) r) g.1
    (record {
      parts = subst (λ (k : ℕ). text ≡ to_le_bytes w16 k ++ a.0.1) (eqb-true _ _ g.0) s.parts;
      rest_fits = s.rest;
    })

found : (text : List ℕ) (g : SavedGroup) → AreBytes text → group_in_text text ≡ Ok g
    → (text ≡ grouptext g) × group_row.Fits g
unfolding group_in_text
found text g fits e =
    let end : ℕ = length text in
    let a = bind_ok (past_magic end text) _ g e in
    let m = magic_takes end text a.0 fits a.1 in
    let b = bind_ok (past_version end a.0) _ g a.2 in
    let v = version_takes end a.0 b.0 m.rest_fits b.1 in
    let c = bind_ok (from_field (group_row.read end b.0)) _ g b.2 in
    let s = group_format.spells end b.0 c.0 v.rest_fits
    (field_ok (group_row.read end b.0) c.0 c.1) in
    let k = guard_true (eqb (length c.0.1) 0) (refusal.AfterEnd (field_place end c.0.1)) c.0.0 g
    c.2 in
    let none : c.0.1 ≡ [] = nil_from_length c.0.1 (eqb-true _ _ k.0) in
    let last : b.0 ≡ group_row.text c.0.0 =
    s.parts ∙ ap (λ (x : List ℕ). group_row.text c.0.0 ++ x) none
    ∙ append-nil (group_row.text c.0.0) in
    subst (λ (h : SavedGroup). (text ≡ grouptext h) × group_row.Fits h) k.1 (
      m.parts ∙ ap (λ (x : List ℕ). group_magic ++ x) (v.parts
          ∙ ap (λ (x : List ℕ). to_le_bytes w16 group_version ++ x) last),
      s.fits,
    )

-- `first_number` without a test
number_at_again : (end : ℕ) (rest : List ℕ)
    → first_number w16 end (to_le_bytes w16 group_version ++ rest) ≡ Ok (group_version, rest)
number_at_again end rest =
    let b = bind_ok (first_number w16 end (to_le_bytes w16 group_version ++ rest)) _ _
    ((number_format w16 wide16 any).again end group_version rest (omega arith, refl)) in
    b.1 ∙ b.2

below_256 : (i : ℕ) → slice_index group_magic i < 256
below_256 zero = omega arith
below_256 (suc zero) = omega arith
below_256 (suc (suc zero)) = omega arith
below_256 (suc (suc (suc zero))) = omega arith
below_256 (suc (suc (suc (suc i)))) = omega arith

magic_again : (end : ℕ) (rest : List ℕ) → past_magic end (group_magic ++ rest) ≡ Ok rest
unfolding past_magic
magic_again end rest =
    rw ((bytes_format 4).again end group_magic rest
    (refl, below_256)) refl

version_again : (end : ℕ) (rest : List ℕ)
    → past_version end (to_le_bytes w16 group_version ++ rest) ≡ Ok rest
unfolding past_version
version_again end rest =
    rw (number_at_again end rest) refl

again : (g : SavedGroup) → group_row.Fits g → group_in_text (grouptext g) ≡ Ok g
unfolding group_in_text
again g fits =
    let end : ℕ = length (grouptext g) in
    let rest : group_row.read end (group_row.text g) ≡ Ok (g, []) =
    subst (λ (x : List ℕ). group_row.read end x ≡ Ok (g, [])) (append-nil (group_row.text g))
    (group_format.again end g [] fits) in
    goes (past_magic end (grouptext g)) _ (to_le_bytes w16 group_version ++ group_row.text g)
    (magic_again end (to_le_bytes w16 group_version ++ group_row.text g))
    ∙ goes (past_version end (to_le_bytes w16 group_version ++ group_row.text g)) _
    (group_row.text g)
    (version_again end (group_row.text g))
    ∙ goes (from_field (group_row.read end (group_row.text g))) _ (g, [])
    (ap (λ (r : Result (SavedGroup × List ℕ) FieldError). from_field r) rest)

pub groups_are_spelled : GroupsAreSpelled
groups_are_spelled = record { found = found; again = again }
