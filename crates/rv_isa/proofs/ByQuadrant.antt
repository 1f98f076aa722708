-- The expansion of a halfword by its quadrant and funct3: only rows with these can fit it.
use Rattle.std.proofs.Common.{◌≡◌, ◌≢◌, ℕ, List, [], ◌∷◌, refl, sym, ap, ◌∙◌, Bool, true, false}
use Rattle.std.proofs.Common.{Option, Some, None, eq-eqb, ne_eqb}
use Rattle.std.specs.Prelude.{option_and_then, bit_and, ◌==◌, ◌&&◌, ◌++◌, if◌then◌else◌, filter}
use Rattle.std.specs.Prelude.{length, ◌≤◌}
use Rattle.std.proofs.lemmas.Nat.{and_assoc}
use Rattle.std.proofs.lemmas.Bool.{and_parts, eqb-true, both_ways, false_from_ne_true}
use Rattle.rv_isa.specs.declared.BranchOp.TheVariants.{Beq, Bne}
use Rattle.rv_isa.specs.declared.Instr.{Instr}
use Rattle.rv_isa.specs.Meaning.{Row, fits, found}
use Rattle.rv_isa.specs.Compressed.{rows, expansion, expanded, arithmetic_rows, shift_rows}
use Rattle.rv_isa.specs.Compressed.{move_rows, by_funct3, addi4spn, c_lw, c_sw, c_addi, jal, c_li}
use Rattle.rv_isa.specs.Compressed.{j}
use Rattle.rv_isa.specs.Compressed.{branch}
use Rattle.rv_isa.specs.Compressed.{lui_or_addi16sp, lwsp, swsp, IsSingle}
use Rattle.rv_isa.proofs.Single.{all_apart, one_fits}

abbrev Expands : Type 0
Expands = ℕ → Option Instr

-- the bits of quadrant and funct3, at which each mask looks
abbrev key : ℕ
key = 0xE003

abbrev covers : List (Row Expands) → Bool
covers [] = true
covers (r ∷ rs) = (bit_and r.mask key == key) && covers rs

abbrev of_key : ℕ → List (Row Expands) → List (Row Expands)
of_key k [] = []
of_key k (r ∷ rs) = if bit_and r.value key == k then r ∷ of_key k rs else of_key k rs

key_of : (h m v : ℕ) → bit_and m key ≡ key → bit_and h m ≡ v → bit_and v key ≡ bit_and h key
key_of h m v e is =
    ap (λ x. bit_and x key) (sym is) ∙ and_assoc key h m ∙ ap (λ x. bit_and h x) e

misses : (h k : ℕ) → bit_and h key ≡ k → (m v : ℕ) → bit_and m key ≡ key
    → (bit_and v key == k) ≡ false → (bit_and h m == v) ≡ false
misses h k is m v e f =
    false_from_ne_true (bit_and h m == v)
    (λ q. both_ways (bit_and v key == k) f
    (eq-eqb (bit_and v key) k (key_of h m v e (eqb-true (bit_and h m) v q) ∙ is)))

module _ (h : ℕ) where
  pass : (r : Row Expands) (xs ys : List (Row Expands)) (b : Bool) → (b ≡ false → fits h r ≡ false)
      → found xs h ≡ found ys h → found (r ∷ xs) h ≡ found (if b then r ∷ ys else ys) h
  unfolding found
  pass r xs ys true f ih = ap (λ z. if fits h r then Some r.name else z) ih
  pass r xs ys false f ih = ap (λ z. if z then Some r.name else found xs h) (f refl) ∙ ih

  -- a row of another key is passed over
  narrowed : (k : ℕ) → bit_and h key ≡ k → (rs : List (Row Expands)) → covers rs ≡ true
      → found rs h ≡ found (of_key k rs) h
  narrowed k is [] c = refl
  narrowed k is (r ∷ rs) c =
      let d = and_parts (bit_and r.mask key == key) (covers rs) c in
      pass r rs (of_key k rs) (bit_and r.value key == k)
      (λ e. misses h k is r.mask r.value (eqb-true (bit_and r.mask key) key d.0) e)
      (narrowed k is rs d.1)

all_cover : covers rows ≡ true
unfolding rows
all_cover = refl

of_group : (h k : ℕ) (g : List (Row Expands)) → bit_and h key ≡ k → of_key k rows ≡ g
    → expansion h ≡ expanded g h
unfolding expansion
of_group h k g is e = ap (option_and_then (λ i. i h))
    (narrowed h k is rows all_cover ∙ ap (λ l. found l h) e)

taken_at : ℕ → Expands → Option Instr
taken_at h instr = instr h

pub expansion_addi4spn : (h : ℕ) → bit_and h 0xE003 ≡ 0x0000 → expansion h ≡ addi4spn h
unfolding rows found
expansion_addi4spn h is =
    of_group h 0x0000 (by_funct3 0b00 0b000 addi4spn ∷ []) is refl ∙ rw is refl

pub expansion_lw : (h : ℕ) → bit_and h 0xE003 ≡ 0x4000 → expansion h ≡ c_lw h
unfolding rows found
expansion_lw h is = of_group h 0x4000 (by_funct3 0b00 0b010 c_lw ∷ []) is refl ∙ rw is refl

pub expansion_sw : (h : ℕ) → bit_and h 0xE003 ≡ 0xC000 → expansion h ≡ c_sw h
unfolding rows found
expansion_sw h is = of_group h 0xC000 (by_funct3 0b00 0b110 c_sw ∷ []) is refl ∙ rw is refl

pub expansion_addi : (h : ℕ) → bit_and h 0xE003 ≡ 0x0001 → expansion h ≡ c_addi h
unfolding rows found
expansion_addi h is = of_group h 0x0001 (by_funct3 0b01 0b000 c_addi ∷ []) is refl ∙ rw is refl

pub expansion_jal : (h : ℕ) → bit_and h 0xE003 ≡ 0x2001 → expansion h ≡ jal h
unfolding rows found
expansion_jal h is = of_group h 0x2001 (by_funct3 0b01 0b001 jal ∷ []) is refl ∙ rw is refl

pub expansion_li : (h : ℕ) → bit_and h 0xE003 ≡ 0x4001 → expansion h ≡ c_li h
unfolding rows found
expansion_li h is = of_group h 0x4001 (by_funct3 0b01 0b010 c_li ∷ []) is refl ∙ rw is refl

pub expansion_lui : (h : ℕ) → bit_and h 0xE003 ≡ 0x6001 → expansion h ≡ lui_or_addi16sp h
unfolding rows found
expansion_lui h is =
    of_group h 0x6001 (by_funct3 0b01 0b011 lui_or_addi16sp ∷ []) is refl ∙ rw is refl

pub expansion_arithmetic : (h : ℕ) → bit_and h 0xE003 ≡ 0x8001
    → expansion h ≡ expanded arithmetic_rows h
unfolding rows
expansion_arithmetic h is = of_group h 0x8001 arithmetic_rows is refl

pub expansion_j : (h : ℕ) → bit_and h 0xE003 ≡ 0xA001 → expansion h ≡ j h
unfolding rows found
expansion_j h is = of_group h 0xA001 (by_funct3 0b01 0b101 j ∷ []) is refl ∙ rw is refl

pub expansion_beqz : (h : ℕ) → bit_and h 0xE003 ≡ 0xC001 → expansion h ≡ branch Beq h
unfolding rows found
expansion_beqz h is =
    of_group h 0xC001 (by_funct3 0b01 0b110 (branch Beq) ∷ []) is refl ∙ rw is refl

pub expansion_bnez : (h : ℕ) → bit_and h 0xE003 ≡ 0xE001 → expansion h ≡ branch Bne h
unfolding rows found
expansion_bnez h is =
    of_group h 0xE001 (by_funct3 0b01 0b111 (branch Bne) ∷ []) is refl ∙ rw is refl

pub expansion_shift : (h : ℕ) → bit_and h 0xE003 ≡ 0x0002 → expansion h ≡ expanded shift_rows h
unfolding rows
expansion_shift h is = of_group h 0x0002 shift_rows is refl

pub expansion_lwsp : (h : ℕ) → bit_and h 0xE003 ≡ 0x4002 → expansion h ≡ lwsp h
unfolding rows found
expansion_lwsp h is = of_group h 0x4002 (by_funct3 0b10 0b010 lwsp ∷ []) is refl ∙ rw is refl

pub expansion_move : (h : ℕ) → bit_and h 0xE003 ≡ 0x8002 → expansion h ≡ expanded move_rows h
unfolding rows
expansion_move h is = of_group h 0x8002 move_rows is refl

pub expansion_swsp : (h : ℕ) → bit_and h 0xE003 ≡ 0xC002 → expansion h ≡ swsp h
unfolding rows found
expansion_swsp h is = of_group h 0xC002 (by_funct3 0b10 0b110 swsp ∷ []) is refl ∙ rw is refl

-- quadrant and funct3 that no row has
pub expansion_none : (h : ℕ) → bit_and h 0xE003 ≢ 0x0000 → bit_and h 0xE003 ≢ 0x4000
    → bit_and h 0xE003 ≢ 0xC000 → bit_and h 0xE003 ≢ 0x0001 → bit_and h 0xE003 ≢ 0x2001
    → bit_and h 0xE003 ≢ 0x4001 → bit_and h 0xE003 ≢ 0x6001 → bit_and h 0xE003 ≢ 0x8001
    → bit_and h 0xE003 ≢ 0xA001 → bit_and h 0xE003 ≢ 0xC001 → bit_and h 0xE003 ≢ 0xE001
    → bit_and h 0xE003 ≢ 0x0002 → bit_and h 0xE003 ≢ 0x4002 → bit_and h 0xE003 ≢ 0x8002
    → bit_and h 0xE003 ≢ 0xC002 → expansion h ≡ None
unfolding rows found
expansion_none h a b c d e f g i j k l m n o p =
    let other : (v : ℕ) → (bit_and h 0xE003 ≡ v → ⊥)
    → (v == bit_and h 0xE003) ≡ false = λ v x. ne_eqb v (bit_and h 0xE003) (λ y. x (sym y)) in
    of_group h (bit_and h 0xE003) [] refl
    (rw (
      other 0x0000 a,
      other 0x4000 b,
      other 0xC000 c,
      other 0x0001 d,
      other 0x2001 e,
      other 0x4001 f,
      other 0x6001 g,
      other 0x8001 i,
      other 0xA001 j,
      other 0xC001 k,
      other 0xE001 l,
      other 0x0002 m,
      other 0x4002 n,
      other 0x8002 o,
      other 0xC002 p,
    )
    refl)

pub ruleset by_quadrant_rules = (
  expansion_addi4spn,
  expansion_lw,
  expansion_sw,
  expansion_addi,
  expansion_jal,
  expansion_li,
  expansion_lui,
  expansion_arithmetic,
  expansion_j,
  expansion_beqz,
  expansion_bnez,
  expansion_shift,
  expansion_lwsp,
  expansion_move,
  expansion_swsp,
  expansion_none,
)

-- ---- at most one row fits

table_apart : all_apart rows ≡ true
unfolding rows
table_apart = refl

pub single : (h : ℕ) → IsSingle h
unfolding IsSingle
single h = one_fits h rows table_apart
