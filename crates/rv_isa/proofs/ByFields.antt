-- The operation of a word by its fields.
use Rattle.std.proofs.Common.{◌≡◌, ◌≢◌, ℕ, ◌/◌, ◌%◌, ◌^◌, ◌<◌, List, [], ◌∷◌, ◌++◌, refl, sym, ap}
use Rattle.std.proofs.Common.{◌∙◌, arith, Bool, true, false, Some, None, ne_eqb, ◌⊎◌, inl, inr}
use Rattle.std.specs.Prelude.{bit_and, ◌==◌, ◌&&◌, ◌||◌, not, if◌then◌else◌}
use Rattle.std.specs.List.{list_all}
use Rattle.std.proofs.lemmas.Bool.{and_parts, and_from, eqb-true}
use Rattle.std.proofs.lemmas.Nat.{and_mask}
use Rattle.rv_isa.specs.Fields.{field}
use Rattle.rv_isa.specs.declared.RegOp.{RegOp}
use Rattle.rv_isa.specs.Meaning.{Row, fits, found, with_funct3, with_funct7, arithmetic_rows}
use Rattle.rv_isa.specs.Meaning.{register_rows, multiply_rows}
use Rattle.rv_isa.specs.Groups.{by_fields, arithmetic_by, register_by}
use Rattle.rv_isa.proofs.Masks.{funct3_mask, funct7_mask}
use Rattle.rv_isa.proofs.ByOpcode.{misses}

-- a row of this opcode that looks at funct3, or at funct3 and funct7
abbrev is_of : {A : Type 0} → ℕ → Row A → Bool
is_of o row = ((row.mask == 0x707F) || (row.mask == 0xFE00707F)) && (row.value % 128 == o)

abbrev pub are_of : {A : Type 0} → ℕ → List (Row A) → Bool
are_of o [] = true
are_of o (row ∷ rows) = is_of o row && are_of o rows

-- what the mask of such a row leaves of a word of the opcode
left_by : (w o m : ℕ) → bit_and w 127 ≡ o → ((m == 0x707F) || (m == 0xFE00707F)) ≡ true
    → bit_and w m ≡ (if m == 0x707F then with_funct3 o (field 14 12 w) else with_funct7 o
    (field 31 25 w) (field 14 12 w))
left_by w o m opcode h = by_first (m == 0x707F) refl h
  where
    by_first : (b : Bool) → (m == 0x707F) ≡ b → (b || (m == 0xFE00707F)) ≡ true
        → bit_and w m ≡ (if b then with_funct3 o (field 14 12 w) else with_funct7 o (field 31 25 w)
        (field 14 12 w))
    by_first true e h = ap (bit_and w) (eqb-true m 0x707F e)
        ∙ omega (arith, funct3_mask w, and_mask w 7, opcode)
    by_first false e h = ap (bit_and w) (eqb-true m 0xFE00707F h)
        ∙ omega (arith, funct7_mask w, and_mask w 7, opcode)

covers_opcode : (m : ℕ) → ((m == 0x707F) || (m == 0xFE00707F)) ≡ true → m % 128 ≡ 127
covers_opcode m h = by_first (m == 0x707F) refl h
  where
    by_first : (b : Bool) → (m == 0x707F) ≡ b → (b || (m == 0xFE00707F)) ≡ true → m % 128 ≡ 127
    by_first true e h = ap (λ n. n % 128) (eqb-true m 0x707F e)
    by_first false e h = ap (λ n. n % 128) (eqb-true m 0xFE00707F h)

module _ {A : Type 0} (w o : ℕ) where
  -- a word of the opcode has the operation of its fields
  pub found_by : bit_and w 127 ≡ o → (rows : List (Row A)) → are_of o rows ≡ true
      → found rows w ≡ by_fields rows o (field 31 25 w) (field 14 12 w)
  unfolding found
  found_by opcode [] h = refl
  found_by opcode (row ∷ rows) h =
      let both = and_parts (is_of o row) (are_of o rows) h in
      let mask = and_parts ((row.mask == 0x707F) || (row.mask == 0xFE00707F))
      (row.value % 128 == o) both.0 in
      ap (λ n. if n == row.value then Some row.name else found rows w)
      (left_by w o row.mask opcode mask.0)
      ∙ ap (λ rest. if (if row.mask == 0x707F then with_funct3 o (field 14 12 w) else with_funct7 o
      (field 31 25 w) (field 14 12 w)) == row.value then Some row.name else rest)
      (found_by opcode rows both.1)

  -- a word of another has none
  pub found_none : bit_and w 127 ≢ o → (rows : List (Row A)) → are_of o rows ≡ true
      → found rows w ≡ None
  unfolding found
  found_none other [] h = refl
  found_none other (row ∷ rows) h =
      let both = and_parts (is_of o row) (are_of o rows) h in
      let mask = and_parts ((row.mask == 0x707F) || (row.mask == 0xFE00707F))
      (row.value % 128 == o) both.0 in
      let value : row.value % 128 ≡ o = eqb-true (row.value % 128) o mask.1 in
      let miss : fits w row ≡ false =
      misses w (bit_and w 127) refl row.mask row.value (covers_opcode row.mask mask.0)
      (ne_eqb (row.value % 128) (bit_and w 127) (λ e. other (sym e ∙ value))) in
      ap (λ z. if z then Some row.name else found rows w) miss ∙ found_none other rows both.1

-- the same by fields that were read
pub by_read : {A : Type 0} (rows : List (Row A)) (w o opcode f7 k f3 : ℕ) → are_of o rows ≡ true
    → opcode ≡ bit_and w 127 → opcode ≡ o → f7 ≡ field 31 25 w → f7 ≡ k → f3 ≡ field 14 12 w
    → by_fields rows o k f3 ≡ found rows w
by_read rows w o opcode f7 k f3 h a b c d e =
    sym (found_by w o (sym a ∙ b) rows h ∙ ap (λ n. by_fields rows o n (field 14 12 w)) (sym c ∙ d)
    ∙ ap (by_fields rows o k) (sym e))

-- ---- fields without a row

-- what a row that looks at funct7 and these fields give differ
apart : (v u : ℕ) → v ≢ u → not (v == u) ≡ true
apart v u other = ap not (ne_eqb v u other)

-- whether a row has another value than these fields give
abbrev differs : {A : Type 0} → ℕ → ℕ → ℕ → Row A → Bool
differs o f7 f3 row = not
    ((if row.mask == 0x707F then with_funct3 o f3 else with_funct7 o f7 f3) == row.value)

none_by : {A : Type 0} (o f7 f3 : ℕ) (rows : List (Row A)) → list_all (differs o f7 f3) rows ≡ true
    → by_fields rows o f7 f3 ≡ None
none_by o f7 f3 [] h = refl
none_by o f7 f3 (row ∷ rows) h =
    let both = and_parts (differs o f7 f3 row) (list_all (differs o f7 f3) rows) h in
    ap (λ z. if z then Some row.name else by_fields rows o f7 f3) (false_of_not _ both.0)
    ∙ none_by o f7 f3 rows both.1
  where
    false_of_not : (b : Bool) → not b ≡ true → b ≡ false
    false_of_not true h = sym h
    false_of_not false h = refl

-- opcode 0x13 with funct3 1 has a row of funct7 0, and with funct3 5 rows of 0 and 0x20
pub no_shift_left : (f7 : ℕ) → f7 ≢ 0 → arithmetic_by f7 1 ≡ None
no_shift_left f7 a =
    let v : ℕ = with_funct7 0x13 f7 1 in
    none_by 0x13 f7 1 arithmetic_rows
    (and_from _ _ (apart v 0x1013 (λ e. a (omega (arith, e))))
    (and_from _ _ (apart v 0x5013 (λ e. omega (arith, e)))
    (and_from _ _ (apart v 0x40005013 (λ e. omega (arith, e))) refl)))

pub no_shift_right : (f7 : ℕ) → f7 ≢ 0 → f7 ≢ 0x20 → arithmetic_by f7 5 ≡ None
no_shift_right f7 a b =
    let v : ℕ = with_funct7 0x13 f7 5 in
    none_by 0x13 f7 5 arithmetic_rows
    (and_from _ _ (apart v 0x1013 (λ e. omega (arith, e)))
    (and_from _ _ (apart v 0x5013 (λ e. a (omega (arith, e))))
    (and_from _ _ (apart v 0x40005013 (λ e. b (omega (arith, e)))) refl)))

-- opcode 0x33 has rows of funct7 0, 1 and 0x20
is_known : Row RegOp → Bool
is_known row = (row.mask == 0xFE00707F)
    && ((row.value / 2 ^ 25 == 0) || ((row.value / 2 ^ 25 == 1) || (row.value / 2 ^ 25 == 0x20)))

pub no_register : (f7 f3 : ℕ) → f3 < 8 → f7 ≢ 0 → f7 ≢ 1 → f7 ≢ 0x20 → register_by f7 f3 ≡ None
unfolding is_known
no_register f7 f3 h a b c =
    none_by 0x33 f7 f3 (register_rows ++ multiply_rows) (each (register_rows ++ multiply_rows) refl)
  where
    either : (x y z : Bool) → (x || (y || z)) ≡ true → (x ≡ true) ⊎ ((y ≡ true) ⊎ (z ≡ true))
    either true y z h = inl refl
    either false true z h = inr (inl refl)
    either false false z h = inr (inr h)

    high : with_funct7 0x33 f7 f3 / 2 ^ 25 ≡ f7
    high = omega arith

    other : (n : ℕ) → (n ≡ 0) ⊎ ((n ≡ 1) ⊎ (n ≡ 0x20)) → f7 ≢ n
    other n (inl e) k = a (k ∙ e)
    other n (inr (inl e)) k = b (k ∙ e)
    other n (inr (inr e)) k = c (k ∙ e)

    of_tests : (n : ℕ) → ((n == 0) ≡ true) ⊎ (((n == 1) ≡ true) ⊎ ((n == 0x20) ≡ true))
        → (n ≡ 0) ⊎ ((n ≡ 1) ⊎ (n ≡ 0x20))
    of_tests n (inl e) = inl (eqb-true n 0 e)
    of_tests n (inr (inl e)) = inr (inl (eqb-true n 1 e))
    of_tests n (inr (inr e)) = inr (inr (eqb-true n 0x20 e))

    one : (row : Row RegOp) → is_known row ≡ true → differs 0x33 f7 f3 row ≡ true
    one row k =
        let both = and_parts (row.mask == 0xFE00707F) _ k in
        let mask : row.mask ≡ 0xFE00707F = eqb-true row.mask 0xFE00707F both.0 in
        let n : ℕ = row.value / 2 ^ 25 in
        let miss : f7 ≢ n = other n (of_tests n (either (n == 0) (n == 1) (n == 0x20) both.1)) in
        ap (λ m. not ((if m == 0x707F then with_funct3 0x33 f3 else with_funct7 0x33 f7 f3) ==
        row.value)) mask
        ∙ apart (with_funct7 0x33 f7 f3) row.value (λ e. miss (sym high ∙ ap (λ v. v / 2 ^ 25) e))

    each : (rows : List (Row RegOp)) → list_all is_known rows ≡ true
        → list_all (differs 0x33 f7 f3) rows ≡ true
    each [] h = refl
    each (row ∷ rows) h = let p = and_parts (is_known row) (list_all is_known rows) h in
        and_from _ _ (one row p.0) (each rows p.1)
