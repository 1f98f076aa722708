-- The meaning of a word by its opcode: only rows with the word's opcode can fit it.
use Rattle.std.proofs.Common.{◌≡◌, ◌≢◌, ℕ, ◌%◌, List, [], ◌∷◌, refl, sym, ap, ◌∙◌, arith, Bool}
use Rattle.std.proofs.Common.{true, false, Option, Some, None, eq-eqb, ne_eqb}
use Rattle.std.specs.Prelude.{option_map, bit_and, ◌==◌, ◌&&◌, ◌++◌, if◌then◌else◌}
use Rattle.std.proofs.lemmas.Nat.{and_mask, and_mod}
use Rattle.std.proofs.lemmas.Bool.{and_parts, eqb-true, both_ways, false_from_ne_true}
use Rattle.rv_isa.specs.declared.Instr.{Instr}
use Rattle.rv_isa.specs.Meaning.{Row, by_opcode, by_funct3, fits, found, rows, base_rows, meaning}
use Rattle.rv_isa.specs.Meaning.{with_fields, upper_row, jal, jalr, branch, load, store, arithmetic}
use Rattle.rv_isa.specs.Meaning.{register, amo, fence, system, branch_rows, load_rows, store_rows}
use Rattle.rv_isa.specs.Meaning.{arithmetic_rows, register_rows, multiply_rows, atomic_rows}
use Rattle.rv_isa.specs.Meaning.{fence_rows, system_rows, branch_in, load_in, store_in}
use Rattle.rv_isa.specs.Meaning.{arithmetic_in, register_in, amo_in, fence_in, system_in}

-- each mask looks at the whole opcode
abbrev covers : {A : Type 0} → List (Row A) → Bool
covers [] = true
covers (r ∷ rs) = (r.mask % 128 == 127) && covers rs

abbrev of_opcode : {A : Type 0} → ℕ → List (Row A) → List (Row A)
of_opcode o [] = []
of_opcode o (r ∷ rs) = if r.value % 128 == o then r ∷ of_opcode o rs else of_opcode o rs

low : (w m v : ℕ) → m % 128 ≡ 127 → bit_and w m ≡ v → v % 128 ≡ bit_and w 127
low w m v e h =
    let a = and_mask (w % 128) 7 in
    let b = and_mask w 7 in
    let c : bit_and (w % 128) (m % 128) ≡ bit_and (w % 128) 127 = ap (λ x. bit_and (w % 128) x) e in
    let d = and_mod w m 7 in
    let f : bit_and w m % 128 ≡ v % 128 = ap (λ x. x % 128) h in
    omega (arith, a, b, c, d, f)

pub misses : (w o : ℕ) → bit_and w 127 ≡ o → (m v : ℕ) → m % 128 ≡ 127 → (v % 128 == o) ≡ false
    → (bit_and w m == v) ≡ false
misses w o is m v e f =
    false_from_ne_true (bit_and w m == v)
    (λ h. both_ways (v % 128 == o) f
    (eq-eqb (v % 128) o (low w m v e (eqb-true (bit_and w m) v h) ∙ is)))

module _ {A : Type 0} (w : ℕ) where
  pass : (r : Row A) (xs ys : List (Row A)) (b : Bool) → (b ≡ false → fits w r ≡ false)
      → found xs w ≡ found ys w → found (r ∷ xs) w ≡ found (if b then r ∷ ys else ys) w
  unfolding found
  pass r xs ys true f ih = ap (λ z. if fits w r then Some r.name else z) ih
  pass r xs ys false f ih = ap (λ z. if z then Some r.name else found xs w) (f refl) ∙ ih

  -- a row of another opcode is passed over
  narrowed : (o : ℕ) → bit_and w 127 ≡ o → (rs : List (Row A)) → covers rs ≡ true
      → found rs w ≡ found (of_opcode o rs) w
  narrowed o is [] c = refl
  narrowed o is (r ∷ rs) c =
      let d = and_parts (r.mask % 128 == 127) (covers rs) c in
      pass r rs (of_opcode o rs) (r.value % 128 == o)
      (λ e. misses w o is r.mask r.value (eqb-true (r.mask % 128) 127 d.0) e)
      (narrowed o is rs d.1)

all_cover : covers rows ≡ true
unfolding rows base_rows
all_cover = refl

-- rows with other names
module _ {A : Type 0} (f : A → ℕ → Instr) (w : ℕ) where
  named_by : (b : Bool) (a : A) (x : Option (ℕ → Instr)) (y : Option A)
      → option_map (λ i. i w) x ≡ option_map (λ op. f op w) y
      → option_map (λ i. i w) (if b then Some (f a) else x)
      ≡ option_map (λ op. f op w) (if b then Some a else y)
  named_by true a x y h = refl
  named_by false a x y h = h

  pub named : (rs : List (Row A))
      → option_map (λ i. i w) (found (with_fields f rs) w) ≡ option_map (λ op. f op w) (found rs w)
  unfolding found
  named [] = refl
  named (r ∷ rs) = named_by (fits w r) r.name (found (with_fields f rs) w) (found rs w) (named rs)

of_group : (w o : ℕ) (g : List (Row (ℕ → Instr))) → bit_and w 127 ≡ o → of_opcode o rows ≡ g
    → meaning w ≡ option_map (λ i. i w) (found g w)
unfolding meaning
of_group w o g is e = ap (option_map (λ i. i w))
    (narrowed w o is rows all_cover ∙ ap (λ l. found l w) e)

pub meaning_branch : (w : ℕ) → bit_and w 127 ≡ 0x63
    → meaning w ≡ option_map (λ op. branch op w) (branch_in w)
unfolding rows base_rows branch_in
meaning_branch w is = of_group w 0x63 (with_fields branch branch_rows) is refl
    ∙ named branch w branch_rows

pub meaning_load : (w : ℕ) → bit_and w 127 ≡ 0x03
    → meaning w ≡ option_map (λ op. load op w) (load_in w)
unfolding rows base_rows load_in
meaning_load w is = of_group w 0x03 (with_fields load load_rows) is refl ∙ named load w load_rows

pub meaning_store : (w : ℕ) → bit_and w 127 ≡ 0x23
    → meaning w ≡ option_map (λ op. store op w) (store_in w)
unfolding rows base_rows store_in
meaning_store w is = of_group w 0x23 (with_fields store store_rows) is refl
    ∙ named store w store_rows

pub meaning_arithmetic : (w : ℕ) → bit_and w 127 ≡ 0x13
    → meaning w ≡ option_map (λ op. arithmetic op w) (arithmetic_in w)
unfolding rows base_rows arithmetic_in
meaning_arithmetic w is = of_group w 0x13 (with_fields arithmetic arithmetic_rows) is refl
    ∙ named arithmetic w arithmetic_rows

pub meaning_register : (w : ℕ) → bit_and w 127 ≡ 0x33
    → meaning w ≡ option_map (λ op. register op w) (register_in w)
unfolding rows base_rows register_in
meaning_register w is = of_group w 0x33
    (with_fields register (register_rows ++ multiply_rows)) is refl
    ∙ named register w (register_rows ++ multiply_rows)

pub meaning_amo : (w : ℕ) → bit_and w 127 ≡ 0x2F
    → meaning w ≡ option_map (λ op. amo op w) (amo_in w)
unfolding rows base_rows amo_in
meaning_amo w is = of_group w 0x2F (with_fields amo atomic_rows) is refl ∙ named amo w atomic_rows

pub meaning_fence : (w : ℕ) → bit_and w 127 ≡ 0x0F
    → meaning w ≡ option_map (λ op. fence op w) (fence_in w)
unfolding rows base_rows fence_in
meaning_fence w is = of_group w 0x0F (with_fields fence fence_rows) is refl
    ∙ named fence w fence_rows

pub meaning_system : (w : ℕ) → bit_and w 127 ≡ 0x73
    → meaning w ≡ option_map (λ op. system op w) (system_in w)
unfolding rows base_rows system_in
meaning_system w is = of_group w 0x73 (with_fields system system_rows) is refl
    ∙ named system w system_rows

pub meaning_lui : (w : ℕ) → bit_and w 127 ≡ 0x37 → meaning w ≡ Some (upper_row false w)
unfolding rows base_rows found
meaning_lui w is = of_group w 0x37 (by_opcode 0x37 (upper_row false) ∷ []) is refl ∙ rw is refl

pub meaning_auipc : (w : ℕ) → bit_and w 127 ≡ 0x17 → meaning w ≡ Some (upper_row true w)
unfolding rows base_rows found
meaning_auipc w is = of_group w 0x17 (by_opcode 0x17 (upper_row true) ∷ []) is refl ∙ rw is refl

pub meaning_jal : (w : ℕ) → bit_and w 127 ≡ 0x6F → meaning w ≡ Some (jal w)
unfolding rows base_rows found
meaning_jal w is = of_group w 0x6F (by_opcode 0x6F jal ∷ []) is refl ∙ rw is refl

abbrev taken_at : ℕ → (ℕ → Instr) → Instr
taken_at w instr = instr w

jalr_by : (w : ℕ) (b : Bool)
    → option_map (taken_at w) (if b then Some jalr else None) ≡ (if b then Some (jalr w) else None)
jalr_by w true = refl
jalr_by w false = refl

pub meaning_jalr : (w : ℕ) → bit_and w 127 ≡ 0x67
    → meaning w ≡ (if bit_and w 0x707F == 0x67 then Some (jalr w) else None)
unfolding rows base_rows found
meaning_jalr w is = of_group w 0x67 (by_funct3 0x67 0 jalr ∷ []) is refl
    ∙ jalr_by w (bit_and w 0x707F == 0x67)

-- an opcode that no row has
pub meaning_none : (w : ℕ) → bit_and w 127 ≢ 0x37 → bit_and w 127 ≢ 0x17 → bit_and w 127 ≢ 0x6F
    → bit_and w 127 ≢ 0x67 → bit_and w 127 ≢ 0x63 → bit_and w 127 ≢ 0x03
    → bit_and w 127 ≢ 0x23 → bit_and w 127 ≢ 0x13 → bit_and w 127 ≢ 0x33 → bit_and w 127 ≢ 0x0F
    → bit_and w 127 ≢ 0x73 → bit_and w 127 ≢ 0x2F → meaning w ≡ None
unfolding rows base_rows found
meaning_none w a b c d e f g h i j k l =
    let other : (v : ℕ) → (bit_and w 127 ≡ v → ⊥)
    → (v == bit_and w 127) ≡ false = λ v n. ne_eqb v (bit_and w 127) (λ p. n (sym p)) in
    of_group w (bit_and w 127) [] refl
    (rw (
      other 0x37 a,
      other 0x17 b,
      other 0x6F c,
      other 0x67 d,
      other 0x63 e,
      other 0x03 f,
      other 0x23 g,
      other 0x13 h,
      other 0x33 i,
      other 0x0F j,
      other 0x73 k,
      other 0x2F l,
    )
    refl)

pub ruleset by_opcode_rules = (
  meaning_lui,
  meaning_auipc,
  meaning_jal,
  meaning_jalr,
  meaning_branch,
  meaning_load,
  meaning_store,
  meaning_arithmetic,
  meaning_register,
  meaning_amo,
  meaning_fence,
  meaning_system,
  meaning_none,
)
