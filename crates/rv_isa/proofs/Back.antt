-- Each row's instruction is valid, and its word is the one that it was read from.
use Rattle.std.proofs.Common.{◌≡◌, ℕ, ◌+◌, ◌*◌, ◌^◌, ◌<◌, List, [], ◌∷◌, Bool, true, false, Option}
use Rattle.std.proofs.Common.{Some, None, refl, sym, ap, ◌∙◌, arith, lit<, IfSome}
use Rattle.std.specs.Prelude.{option_map, bit_and, if◌then◌else◌}
use Rattle.std.proofs.lemmas.Bool.{eqb-true}
use Rattle.std.proofs.lemmas.Bool.Decides.{nat_tests}
use Rattle.rv_isa.specs.Fields.{field, flag, rd, rs1, rs2, imm_i, imm_s, bits_s, bits_b, bits_j}
use Rattle.rv_isa.specs.Meaning.{Row, fits, found, rows, base_rows, meaning, branch, load, store}
use Rattle.rv_isa.specs.Meaning.{arithmetic, register, amo, fence, system, jal, jalr, upper_row}
use Rattle.rv_isa.specs.Valid.{IsValid, IsSecond, IsImmediate}
use Rattle.rv_isa.specs.Encoding.{encoding, twos, r_type, i_type, s_type, b_type, j_type, one_if}
use Rattle.rv_isa.specs.Encoding.{branch_funct3, load_funct3, store_funct3, imm_funct3}
use Rattle.rv_isa.specs.Encoding.{shift_funct3, shift_funct7, reg_funct3, reg_funct7, amo_funct5}
use Rattle.rv_isa.specs.declared.BranchOp.{BranchOp}
use Rattle.rv_isa.specs.declared.BranchOp.TheVariants.{Beq, Bne, Blt, Bge, Bltu, Bgeu}
use Rattle.rv_isa.specs.declared.LoadOp.{LoadOp}
use Rattle.rv_isa.specs.declared.LoadOp.TheVariants.{Lb, Lh, Lw, Lbu, Lhu}
use Rattle.rv_isa.specs.declared.StoreOp.{StoreOp}
use Rattle.rv_isa.specs.declared.StoreOp.TheVariants.{Sb, Sh, Sw}
use Rattle.rv_isa.specs.declared.ImmOp.{ImmOp}
use Rattle.rv_isa.specs.declared.ImmOp.TheVariants.{Addi, Slti, Sltiu, Xori, Ori, Andi}
use Rattle.rv_isa.specs.declared.ShiftOp.{ShiftOp}
use Rattle.rv_isa.specs.declared.ShiftOp.TheVariants.{Slli, Srli, Srai}
use Rattle.rv_isa.specs.declared.RegOp.{RegOp}
use Rattle.rv_isa.specs.declared.RegOp.TheVariants.{Add, Sub, Sll, Slt, Sltu, Xor, Srl, Sra, Or}
use Rattle.rv_isa.specs.declared.RegOp.TheVariants.{And, Mul, Mulh, Mulhsu, Mulhu, Div, Divu, Rem}
use Rattle.rv_isa.specs.declared.RegOp.TheVariants.{Remu}
use Rattle.rv_isa.specs.declared.AmoOp.{AmoOp}
use Rattle.rv_isa.specs.declared.AmoOp.TheVariants.{LrW, ScW, AmoswapW, AmoaddW, AmoxorW, AmoandW}
use Rattle.rv_isa.specs.declared.AmoOp.TheVariants.{AmoorW, AmominW, AmomaxW, AmominuW, AmomaxuW}
use Rattle.rv_isa.specs.declared.SystemOp.{SystemOp}
use Rattle.rv_isa.specs.declared.SystemOp.TheVariants.{Ecall as EcallOp, Ebreak as EbreakOp}
use Rattle.rv_isa.specs.declared.Arithmetic.TheVariants.{Plain, Shifts}
use Rattle.rv_isa.proofs.Codes.{branch_below, load_below, store_below, imm_below, shift_below}
use Rattle.rv_isa.proofs.Codes.{reg_below, amo_below, one_below}
use Rattle.rv_isa.specs.declared.Instr.{Instr}
use Rattle.rv_isa.proofs.Single.{single}
use Rattle.rv_isa.proofs.Masks.{opcode_mask, funct3_mask, funct7_mask, funct5_mask}
use Rattle.rv_isa.proofs.Masks.{funct5_alone_mask, word_mask}
use Rattle.rv_isa.proofs.Formats.{i_parts, r_parts, s_parts, b_parts, u_parts, j_parts}
use Rattle.rv_isa.proofs.Formats.{twos-extended_12, twos-extended_13, twos-extended_21}
use Rattle.rv_isa.proofs.Formats.{immediate_range, branch_range, jump_range}

abbrev GoesBack : Instr → ℕ → Type 0
GoesBack instr w = IsValid instr × (encoding instr ≡ w)

abbrev RowGoesBack : Row (ℕ → Instr) → Type 0
RowGoesBack r = (w : ℕ) → w < 2 ^ 32 → bit_and w r.mask ≡ r.value → GoesBack (r.name w) w

abbrev AllGoBack : List (Row (ℕ → Instr)) → Type 0
AllGoBack [] = Unit {0}
AllGoBack (r ∷ rs) = RowGoesBack r × AllGoBack rs

-- ---- by format

record Codes3 (w opcode funct3 : ℕ) : Type 0 where
  opcode_is : field 6 0 w ≡ opcode
  funct3_is : field 14 12 w ≡ funct3

codes3 : (w opcode funct3 : ℕ) → opcode < 128 → funct3 < 8
    → bit_and w 0x707F ≡ funct3 * 2 ^ 12 + opcode → Codes3 w opcode funct3
codes3 w opcode funct3 a b e = let m = funct3_mask w in
    record { opcode_is = omega (arith, m, e); funct3_is = omega (arith, m, e) }

record Codes7 (w opcode funct7 funct3 : ℕ) : Type 0 where
  opcode_is : field 6 0 w ≡ opcode
  funct3_is : field 14 12 w ≡ funct3
  funct7_is : field 31 25 w ≡ funct7

codes7 : (w opcode funct7 funct3 : ℕ) → opcode < 128 → funct3 < 8
    → bit_and w 0xFE00707F ≡ funct7 * 2 ^ 25 + funct3 * 2 ^ 12 + opcode
    → Codes7 w opcode funct7 funct3
codes7 w opcode funct7 funct3 a b e =
    let m = funct7_mask w in
    record {
      opcode_is = omega (arith, m, e);
      funct3_is = omega (arith, m, e);
      funct7_is =
          omega (arith, m, e);
    }

i_back : (w opcode funct3 : ℕ) → w < 2 ^ 32 → opcode < 128 → funct3 < 8
    → bit_and w 0x707F ≡ funct3 * 2 ^ 12 + opcode
    → i_type opcode funct3 (rd w) (rs1 w) (twos 12 (imm_i w)) ≡ w
i_back w opcode funct3 h a b e =
    let c = codes3 w opcode funct3 a b e in
    ap (i_type opcode funct3 (rd w) (rs1 w)) (twos-extended_12 (field 31 20 w) (omega arith))
    ∙ i_parts w opcode funct3 h c.opcode_is c.funct3_is

i_valid : (w : ℕ) → (rd w < 32) × (rs1 w < 32) × IsImmediate (imm_i w)
i_valid w = (omega arith, omega arith, immediate_range (field 31 20 w) (omega arith))

load_back : (op : LoadOp) → (w : ℕ) → w < 2 ^ 32 → bit_and w 0x707F ≡ load_funct3 op * 2 ^ 12 + 0x03
    → GoesBack (load op w) w
load_back op w h e = (i_valid w, i_back w 0x03 (load_funct3 op) h (lit< tt) (load_below op) e)

s_back : (w opcode funct3 : ℕ) → w < 2 ^ 32 → opcode < 128 → funct3 < 8
    → bit_and w 0x707F ≡ funct3 * 2 ^ 12 + opcode
    → s_type opcode funct3 (rs1 w) (rs2 w) (twos 12 (imm_s w)) ≡ w
s_back w opcode funct3 h a b e =
    let c = codes3 w opcode funct3 a b e in
    ap (s_type opcode funct3 (rs1 w) (rs2 w)) (twos-extended_12 (bits_s w) (omega arith))
    ∙ s_parts w opcode funct3 h c.opcode_is c.funct3_is

store_back : (op : StoreOp) → (w : ℕ) → w < 2 ^ 32
    → bit_and w 0x707F ≡ store_funct3 op * 2 ^ 12 + 0x23 → GoesBack (store op w) w
store_back op w h e = (
  (omega arith, omega arith, immediate_range (bits_s w) (omega arith)),
  s_back w 0x23 (store_funct3 op) h (lit< tt) (store_below op) e,
)

branch_back : (op : BranchOp) → (w : ℕ) → w < 2 ^ 32
    → bit_and w 0x707F ≡ branch_funct3 op * 2 ^ 12 + 0x63 → GoesBack (branch op w) w
branch_back op w h e =
    let c = codes3 w 0x63 (branch_funct3 op) (lit< tt) (branch_below op) e in
    let n : bits_b w < 2 ^ 13 = omega arith in (
      (omega arith, omega arith, branch_range (bits_b w) n (omega arith)),
      ap (b_type 0x63 (branch_funct3 op) (rs1 w) (rs2 w)) (twos-extended_13 (bits_b w) n)
          ∙ b_parts w 0x63 (branch_funct3 op) h c.opcode_is c.funct3_is,
    )

plain_back : (op : ImmOp) → (w : ℕ) → w < 2 ^ 32 → bit_and w 0x707F ≡ imm_funct3 op * 2 ^ 12 + 0x13
    → GoesBack (arithmetic (Plain op) w) w
plain_back op w h e = (i_valid w, i_back w 0x13 (imm_funct3 op) h (lit< tt) (imm_below op) e)

r_back : (w opcode funct7 funct3 : ℕ) → w < 2 ^ 32 → opcode < 128 → funct3 < 8
    → bit_and w 0xFE00707F ≡ funct7 * 2 ^ 25 + funct3 * 2 ^ 12 + opcode
    → r_type opcode funct3 funct7 (rd w) (rs1 w) (rs2 w) ≡ w
r_back w opcode funct7 funct3 h a b e =
    let c = codes7 w opcode funct7 funct3 a b e in
    r_parts w opcode funct3 funct7 h c.opcode_is c.funct3_is c.funct7_is

r_valid : (w : ℕ) → (rd w < 32) × (rs1 w < 32) × (rs2 w < 32)
r_valid w = (omega arith, omega arith, omega arith)

shift_back : (op : ShiftOp) → (w : ℕ) → w < 2 ^ 32
    → bit_and w 0xFE00707F ≡ shift_funct7 op * 2 ^ 25 + shift_funct3 op * 2 ^ 12 + 0x13
    → GoesBack (arithmetic (Shifts op) w) w
shift_back op w h e = (
  r_valid w,
  r_back w 0x13 (shift_funct7 op) (shift_funct3 op) h (lit< tt)
      (shift_below op) e,
)

register_back : (op : RegOp) → (w : ℕ) → w < 2 ^ 32
    → bit_and w 0xFE00707F ≡ reg_funct7 op * 2 ^ 25 + reg_funct3 op * 2 ^ 12 + 0x33
    → GoesBack (register op w) w
register_back op w h e = (
  r_valid w,
  r_back w 0x33 (reg_funct7 op) (reg_funct3 op) h (lit< tt)
      (reg_below op) e,
)

fence_back : (fetch : Bool) → (w : ℕ) → w < 2 ^ 32 → bit_and w 0x707F ≡ one_if fetch * 2 ^ 12 + 0x0F
    → GoesBack (fence fetch w) w
fence_back fetch w h e =
    let c = codes3 w 0x0F (one_if fetch) (lit< tt) (one_below fetch) e in (
      (omega arith, omega arith, omega arith),
      i_parts w 0x0F (one_if fetch) h c.opcode_is c.funct3_is,
    )

upper_back : (auipc : Bool) → (w : ℕ) → w < 2 ^ 32 → bit_and w 0x7F ≡ (if auipc then 0x17 else 0x37)
    → GoesBack (upper_row auipc w) w
upper_back auipc w h e = (
  (omega arith, omega arith, omega arith),
  u_parts w (if auipc then 0x17 else 0x37) h (sym (opcode_mask w) ∙ e),
)

jal_back : (w : ℕ) → w < 2 ^ 32 → bit_and w 0x7F ≡ 0x6F → GoesBack (jal w) w
jal_back w h e =
    let n : bits_j w < 2 ^ 21 = omega arith in (
      (omega arith, jump_range (bits_j w) n (omega arith)),
      ap (j_type 0x6F (rd w)) (twos-extended_21 (bits_j w) n)
          ∙ j_parts w 0x6F h (sym (opcode_mask w) ∙ e),
    )

jalr_back : (w : ℕ) → w < 2 ^ 32 → bit_and w 0x707F ≡ 0x67 → GoesBack (jalr w) w
jalr_back w h e = (i_valid w, i_back w 0x67 0 h (lit< tt) (lit< tt) e)

-- ---- the atomic operations, with aq and rl

aq_back : (w : ℕ) → one_if (flag 26 w) ≡ field 26 26 w
aq_back w = grind (arith, nat_tests)

rl_back : (w : ℕ) → one_if (flag 25 w) ≡ field 25 25 w
rl_back w = grind (arith, nat_tests)

amo_parts : (w funct5 : ℕ) → w < 2 ^ 32 → field 6 0 w ≡ 0x2F → field 14 12 w ≡ 2
    → field 31 27 w ≡ funct5
    → r_type 0x2F 2 (funct5 * 2 ^ 2 + one_if (flag 26 w) * 2 + one_if (flag 25 w)) (rd w) (rs1 w)
    (rs2 w) ≡ w
amo_parts w funct5 h a b c =
    let e : funct5 * 2 ^ 2 + field 26 26 w * 2 + field 25 25 w ≡ field 31 25 w = omega arith in
    rw (aq_back w, rl_back w, e) (r_parts w 0x2F 2 (field 31 25 w) h a b refl)

free_back : (op : AmoOp) → ((w : ℕ) → IsSecond op (rs2 w)) → (w : ℕ) → w < 2 ^ 32
    → bit_and w 0xF800707F ≡ amo_funct5 op * 2 ^ 27 + 2 * 2 ^ 12 + 0x2F → GoesBack (amo op w) w
free_back op s w h e =
    let m = funct5_mask w in
    let u = amo_below op in (
      (omega arith, omega arith, s w),
      amo_parts w (amo_funct5 op) h (omega (arith, m, e))
          (omega (arith, m, e)) (omega (arith, m, e)),
    )

alone_back : (w : ℕ) → w < 2 ^ 32 → bit_and w 0xF9F0707F ≡ 2 * 2 ^ 27 + 2 * 2 ^ 12 + 0x2F
    → GoesBack (amo LrW w) w
alone_back w h e =
    let m = funct5_alone_mask w in (
      (omega arith, omega arith, omega (arith, m, e)),
      amo_parts w 2 h (omega (arith, m, e))
          (omega (arith, m, e)) (omega (arith, m, e)),
    )

second : (w : ℕ) → rs2 w < 32
second w = omega arith

system_back : (op : SystemOp) (v : ℕ) → encoding (system op 0) ≡ v → IsValid (system op 0) → (w : ℕ)
    → w < 2 ^ 32 → bit_and w 0xFFFFFFFF ≡ v → GoesBack (system op w) w
system_back EcallOp v e p w h k = (p, e ∙ sym k ∙ word_mask w h)
system_back EbreakOp v e p w h k = (p, e ∙ sym k ∙ word_mask w h)

-- ---- the whole table

infixr 10 ◌▸◌
◌▸◌ : {A B : Type 0} → A → B → A × B
(a ▸ b) = (a, b)

table_back : AllGoBack rows
unfolding rows base_rows ◌▸◌
table_back =
    upper_back false ▸ upper_back true ▸ jal_back ▸ jalr_back ▸
    branch_back Beq ▸ branch_back Bne ▸ branch_back Blt ▸ branch_back Bge ▸ branch_back Bltu ▸
    branch_back Bgeu ▸
    load_back Lb ▸ load_back Lh ▸ load_back Lw ▸ load_back Lbu ▸ load_back Lhu ▸
    store_back Sb ▸ store_back Sh ▸ store_back Sw ▸
    plain_back Addi ▸ plain_back Slti ▸ plain_back Sltiu ▸ plain_back Xori ▸ plain_back Ori ▸
    plain_back Andi ▸
    shift_back Slli ▸ shift_back Srli ▸ shift_back Srai ▸
    register_back Add ▸ register_back Sub ▸ register_back Sll ▸ register_back Slt ▸ register_back
    Sltu ▸ register_back Xor ▸ register_back Srl ▸ register_back Sra ▸ register_back Or ▸
    register_back And ▸
    fence_back false ▸ fence_back true ▸
    system_back EcallOp 0x00000073 refl tt ▸ system_back EbreakOp 0x00100073 refl tt ▸
    register_back Mul ▸ register_back Mulh ▸ register_back Mulhsu ▸ register_back Mulhu ▸
    register_back Div ▸ register_back Divu ▸ register_back Rem ▸ register_back Remu ▸
    alone_back ▸ free_back ScW second ▸ free_back AmoswapW second ▸ free_back AmoaddW second ▸
    free_back AmoxorW second ▸ free_back AmoandW second ▸ free_back AmoorW second ▸
    free_back AmominW second ▸ free_back AmomaxW second ▸ free_back AmominuW second ▸
    free_back AmomaxuW second ▸
    tt

module _ (w : ℕ) (h : w < 2 ^ 32) where
  one_back : (r : Row (ℕ → Instr)) (b : Bool) → RowGoesBack r
      → (b ≡ true → bit_and w r.mask ≡ r.value) → (x : Option (ℕ → Instr))
      → IfSome (option_map (λ i. i w) x) (λ i. GoesBack i w)
      → IfSome (option_map (λ i. i w) (if b then Some r.name else x)) (λ i. GoesBack i w)
  one_back r true p f x q = p w h (f refl)
  one_back r false p f x q = q

  found_back : (rs : List (Row (ℕ → Instr))) → AllGoBack rs
      → IfSome (option_map (λ i. i w) (found rs w)) (λ i. GoesBack i w)
  unfolding found
  found_back [] p = tt
  found_back (r ∷ rs) p =
      one_back r (fits w r) p.0 (λ e. eqb-true (bit_and w r.mask) r.value e) (found rs w)
      (found_back rs p.1)

  meaning_back : IfSome (meaning w) (λ i. GoesBack i w)
  unfolding meaning
  meaning_back = found_back rows table_back

if_some_mono : {A : Type 0} (P Q : A → Type 0) → ((a : A) → P a → Q a) → (o : Option A) → IfSome o P
    → IfSome o Q
if_some_mono P Q f None p = tt
if_some_mono P Q f (Some a) p = f a p

pub meaning_valid : (w : ℕ) → w < 2 ^ 32 → IfSome (meaning w) IsValid
meaning_valid w h = if_some_mono (λ i. GoesBack i w) IsValid (λ i p. p.0) (meaning w)
    (meaning_back w h)

pub meaning_encoded : (w : ℕ) → w < 2 ^ 32 → IfSome (meaning w) (λ i. encoding i ≡ w)
meaning_encoded w h = if_some_mono (λ i. GoesBack i w) (λ i. encoding i ≡ w) (λ i p. p.1)
    (meaning w) (meaning_back w h)

-- what is told of the instruction of a word
pub ruleset meaning_rules = (single, meaning_valid, meaning_encoded)
