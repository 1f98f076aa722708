-- What is encoded is decoded again: the meaning of a valid instruction's word is the instruction.
use Rattle.std.proofs.Common.{◌≡◌, ℕ, ◌+◌, ◌*◌, ◌/◌, ◌%◌, ◌^◌, ◌<◌, ℤ, Bool, true, false, Some}
use Rattle.std.proofs.Common.{refl, sym, ap, ◌∙◌, arith, lit<, ne_eqb}
use Rattle.std.specs.Prelude.{option_map, bit_and, ◌==◌, if◌then◌else◌}
use Rattle.std.proofs.lemmas.Bool.{eqb-false}
use Rattle.rv_isa.specs.Fields.{field, flag, rd, rs1, rs2, sign_extended, imm_i, imm_s, imm_b}
use Rattle.rv_isa.specs.Fields.{imm_j, imm_u, bits_s, bits_b, bits_j}
use Rattle.rv_isa.specs.Meaning.{meaning, found, branch, load, store, arithmetic, register, amo}
use Rattle.rv_isa.specs.Meaning.{fence, branch_in, load_in, store_in, arithmetic_in, register_in}
use Rattle.rv_isa.specs.Meaning.{amo_in, fence_in, system_in}
use Rattle.rv_isa.specs.Valid.{IsValid}
use Rattle.rv_isa.specs.Encoding.{encoding, twos, r_type, i_type, s_type, b_type, u_type, j_type}
use Rattle.rv_isa.specs.Encoding.{one_if, branch_funct3, load_funct3, store_funct3, imm_funct3}
use Rattle.rv_isa.specs.Encoding.{shift_funct3, shift_funct7, reg_funct3, reg_funct7, amo_funct5}
use Rattle.rv_isa.specs.declared.BranchOp.{BranchOp}
use Rattle.rv_isa.specs.declared.BranchOp.TheVariants.{Beq, Bne, Blt, Bge, Bltu, Bgeu}
use Rattle.rv_isa.specs.declared.LoadOp.{LoadOp}
use Rattle.rv_isa.specs.declared.LoadOp.TheVariants.{Lb, Lh, Lw, Lbu, Lhu}
use Rattle.rv_isa.specs.declared.StoreOp.{StoreOp}
use Rattle.rv_isa.specs.declared.StoreOp.TheVariants.{Sb, Sh, Sw}
use Rattle.rv_isa.specs.declared.ImmOp.{ImmOp}
use Rattle.rv_isa.specs.declared.ImmOp.TheVariants.{Addi, Slti, Sltiu, Xori, Ori, Andi}
use Rattle.rv_isa.specs.declared.ShiftOp.{ShiftOp}
use Rattle.rv_isa.specs.declared.ShiftOp.TheVariants.{Slli, Srli, Srai}
use Rattle.rv_isa.specs.declared.RegOp.{RegOp}
use Rattle.rv_isa.specs.declared.RegOp.TheVariants.{Add, Sub, Sll, Slt, Sltu, Xor, Srl, Sra, Or}
use Rattle.rv_isa.specs.declared.RegOp.TheVariants.{And, Mul, Mulh, Mulhsu, Mulhu, Div, Divu, Rem}
use Rattle.rv_isa.specs.declared.RegOp.TheVariants.{Remu}
use Rattle.rv_isa.specs.declared.AmoOp.{AmoOp}
use Rattle.rv_isa.specs.declared.AmoOp.TheVariants.{LrW, ScW, AmoswapW, AmoaddW, AmoxorW, AmoandW}
use Rattle.rv_isa.specs.declared.AmoOp.TheVariants.{AmoorW, AmominW, AmomaxW, AmominuW, AmomaxuW}
use Rattle.rv_isa.specs.declared.Arithmetic.TheVariants.{Plain, Shifts}
use Rattle.rv_isa.specs.declared.Instr.{Instr}
use Rattle.rv_isa.specs.declared.Instr.TheVariants.{Upper, Jal, Jalr, Branch, Load, Store, Imm}
use Rattle.rv_isa.specs.declared.Instr.TheVariants.{Shift, Reg, Amo, Fence, Ecall, Ebreak}
use Rattle.rv_isa.proofs.ByOpcode.{meaning_branch, meaning_load, meaning_store, meaning_arithmetic}
use Rattle.rv_isa.proofs.ByOpcode.{meaning_register, meaning_amo, meaning_fence, meaning_system}
use Rattle.rv_isa.proofs.ByOpcode.{meaning_lui, meaning_auipc, meaning_jal, meaning_jalr}
use Rattle.rv_isa.proofs.Codes.{bit_below, upper_below, branch_below, load_below, store_below}
use Rattle.rv_isa.proofs.Codes.{imm_below, shift_below, shift7_below, reg_below, reg7_below}
use Rattle.rv_isa.proofs.Codes.{amo_below, one_below}
use Rattle.rv_isa.proofs.Masks.{opcode_mask, funct3_mask, funct7_mask, funct5_mask}
use Rattle.rv_isa.proofs.Masks.{funct5_alone_mask}
use Rattle.rv_isa.proofs.Formats.{Fields, r_fields, i_fields, extended-twos_12, extended-twos_13}
use Rattle.rv_isa.proofs.Formats.{extended-twos_21, twos_below_12, twos_below_13, twos_below_21}

-- ---- an operation by its codes

branch_named : (op : BranchOp) (w : ℕ) → bit_and w 0x707F ≡ branch_funct3 op * 2 ^ 12 + 0x63
    → branch_in w ≡ Some op
unfolding branch_in found
branch_named Beq w e = rw e refl
branch_named Bne w e = rw e refl
branch_named Blt w e = rw e refl
branch_named Bge w e = rw e refl
branch_named Bltu w e = rw e refl
branch_named Bgeu w e = rw e refl

load_named : (op : LoadOp) (w : ℕ) → bit_and w 0x707F ≡ load_funct3 op * 2 ^ 12 + 0x03
    → load_in w ≡ Some op
unfolding load_in found
load_named Lb w e = rw e refl
load_named Lh w e = rw e refl
load_named Lw w e = rw e refl
load_named Lbu w e = rw e refl
load_named Lhu w e = rw e refl

store_named : (op : StoreOp) (w : ℕ) → bit_and w 0x707F ≡ store_funct3 op * 2 ^ 12 + 0x23
    → store_in w ≡ Some op
unfolding store_in found
store_named Sb w e = rw e refl
store_named Sh w e = rw e refl
store_named Sw w e = rw e refl

plain_named : (op : ImmOp) (w : ℕ) → bit_and w 0x707F ≡ imm_funct3 op * 2 ^ 12 + 0x13
    → arithmetic_in w ≡ Some (Plain op)
unfolding arithmetic_in found
plain_named Addi w e = rw e refl
plain_named Slti w e = rw e refl
plain_named Sltiu w e = rw e refl
plain_named Xori w e = rw e refl
plain_named Ori w e = rw e refl
plain_named Andi w e = rw e refl

shift_named : (op : ShiftOp) (w : ℕ) → bit_and w 0x707F ≡ shift_funct3 op * 2 ^ 12 + 0x13
    → bit_and w 0xFE00707F ≡ shift_funct7 op * 2 ^ 25 + shift_funct3 op * 2 ^ 12 + 0x13
    → arithmetic_in w ≡ Some (Shifts op)
unfolding arithmetic_in found
shift_named Slli w e f = rw (e, f) refl
shift_named Srli w e f = rw (e, f) refl
shift_named Srai w e f = rw (e, f) refl

register_named : (op : RegOp) (w : ℕ)
    → bit_and w 0xFE00707F ≡ reg_funct7 op * 2 ^ 25 + reg_funct3 op * 2 ^ 12 + 0x33
    → register_in w ≡ Some op
unfolding register_in found
register_named Add w e = rw e refl
register_named Sub w e = rw e refl
register_named Sll w e = rw e refl
register_named Slt w e = rw e refl
register_named Sltu w e = rw e refl
register_named Xor w e = rw e refl
register_named Srl w e = rw e refl
register_named Sra w e = rw e refl
register_named Or w e = rw e refl
register_named And w e = rw e refl
register_named Mul w e = rw e refl
register_named Mulh w e = rw e refl
register_named Mulhsu w e = rw e refl
register_named Mulhu w e = rw e refl
register_named Div w e = rw e refl
register_named Divu w e = rw e refl
register_named Rem w e = rw e refl
register_named Remu w e = rw e refl

fence_named : (op : Bool) (w : ℕ) → bit_and w 0x707F ≡ one_if op * 2 ^ 12 + 0x0F
    → fence_in w ≡ Some op
unfolding fence_in found
fence_named false w e = rw e refl
fence_named true w e = rw e refl

not_alone : (w funct5 : ℕ) → bit_and w 0xF800707F ≡ funct5 * 2 ^ 27 + 2 * 2 ^ 12 + 0x2F
    → (funct5 == 2) ≡ false → (bit_and w 0xF9F0707F == 0x1000202F) ≡ false
not_alone w funct5 e n = ne_eqb (bit_and w 0xF9F0707F) 0x1000202F
    (λ p. let m = funct5_mask w in let k = funct5_alone_mask w in let d =
    eqb-false funct5 2 n in d (omega (arith, m, k, e, p)))

lr_named : (w : ℕ) → bit_and w 0xF9F0707F ≡ 0x1000202F → amo_in w ≡ Some LrW
unfolding amo_in found
lr_named w e = rw e refl

free_named : (op : AmoOp) (w : ℕ) → (amo_funct5 op == 2) ≡ false
    → bit_and w 0xF800707F ≡ amo_funct5 op * 2 ^ 27 + 2 * 2 ^ 12 + 0x2F → amo_in w ≡ Some op
unfolding amo_in found
free_named LrW w n e = cc
free_named ScW w n e = rw (not_alone w (amo_funct5 ScW) e n, e) refl
free_named AmoswapW w n e = rw (not_alone w (amo_funct5 AmoswapW) e n, e) refl
free_named AmoaddW w n e = rw (not_alone w (amo_funct5 AmoaddW) e n, e) refl
free_named AmoxorW w n e = rw (not_alone w (amo_funct5 AmoxorW) e n, e) refl
free_named AmoandW w n e = rw (not_alone w (amo_funct5 AmoandW) e n, e) refl
free_named AmoorW w n e = rw (not_alone w (amo_funct5 AmoorW) e n, e) refl
free_named AmominW w n e = rw (not_alone w (amo_funct5 AmominW) e n, e) refl
free_named AmomaxW w n e = rw (not_alone w (amo_funct5 AmomaxW) e n, e) refl
free_named AmominuW w n e = rw (not_alone w (amo_funct5 AmominuW) e n, e) refl
free_named AmomaxuW w n e = rw (not_alone w (amo_funct5 AmomaxuW) e n, e) refl

-- ---- a word with these fields

module _ (w : ℕ) where
  branch_is : (op : BranchOp) (r1 r2 : ℕ) (z : ℤ) → bit_and w 127 ≡ 0x63 → branch_in w ≡ Some op
      → rs1 w ≡ r1 → rs2 w ≡ r2 → imm_b w ≡ z → meaning w ≡ Some (Branch op r1 r2 z)
  branch_is op r1 r2 z is e a b c = meaning_branch w is ∙ ap (option_map (λ o. branch o w)) e ∙ (cc)

  load_is : (op : LoadOp) (d r1 : ℕ) (z : ℤ) → bit_and w 127 ≡ 0x03 → load_in w ≡ Some op → rd w ≡ d
      → rs1 w ≡ r1 → imm_i w ≡ z → meaning w ≡ Some (Load op d r1 z)
  load_is op d r1 z is e a b c = meaning_load w is ∙ ap (option_map (λ o. load o w)) e ∙ (cc)

  store_is : (op : StoreOp) (r1 r2 : ℕ) (z : ℤ) → bit_and w 127 ≡ 0x23 → store_in w ≡ Some op
      → rs1 w ≡ r1 → rs2 w ≡ r2 → imm_s w ≡ z → meaning w ≡ Some (Store op r1 r2 z)
  store_is op r1 r2 z is e a b c = meaning_store w is ∙ ap (option_map (λ o. store o w)) e ∙ (cc)

  plain_is : (op : ImmOp) (d r1 : ℕ) (z : ℤ) → bit_and w 127 ≡ 0x13
      → arithmetic_in w ≡ Some (Plain op) → rd w ≡ d → rs1 w ≡ r1 → imm_i w ≡ z
      → meaning w ≡ Some (Imm op d r1 z)
  plain_is op d r1 z is e a b c = meaning_arithmetic w is ∙ ap (option_map (λ o. arithmetic o w)) e
      ∙ (cc)

  shift_is : (op : ShiftOp) (d r1 n : ℕ) → bit_and w 127 ≡ 0x13 → arithmetic_in w ≡ Some (Shifts op)
      → rd w ≡ d → rs1 w ≡ r1 → rs2 w ≡ n → meaning w ≡ Some (Shift op d r1 n)
  shift_is op d r1 n is e a b c = meaning_arithmetic w is ∙ ap (option_map (λ o. arithmetic o w)) e
      ∙ (cc)

  register_is : (op : RegOp) (d r1 r2 : ℕ) → bit_and w 127 ≡ 0x33 → register_in w ≡ Some op
      → rd w ≡ d → rs1 w ≡ r1 → rs2 w ≡ r2 → meaning w ≡ Some (Reg op d r1 r2)
  register_is op d r1 r2 is e a b c = meaning_register w is ∙ ap (option_map (λ o. register o w)) e
      ∙ (cc)

  amo_is : (op : AmoOp) (d r1 r2 : ℕ) (aq rl : Bool) → bit_and w 127 ≡ 0x2F → amo_in w ≡ Some op
      → rd w ≡ d → rs1 w ≡ r1 → rs2 w ≡ r2 → flag 26 w ≡ aq → flag 25 w ≡ rl
      → meaning w ≡ Some (Amo op d r1 r2 aq rl)
  amo_is op d r1 r2 aq rl is e a b c f g = meaning_amo w is ∙ ap (option_map (λ o. amo o w)) e
      ∙ (cc)

  fence_is : (fetch : Bool) (d r1 n : ℕ) → bit_and w 127 ≡ 0x0F → fence_in w ≡ Some fetch → rd w ≡ d
      → rs1 w ≡ r1 → field 31 20 w ≡ n → meaning w ≡ Some (Fence fetch d r1 n)
  fence_is fetch d r1 n is e a b c = meaning_fence w is ∙ ap (option_map (λ o. fence o w)) e ∙ (cc)

  upper_is : (auipc : Bool) (d n : ℕ) → bit_and w 127 ≡ (if auipc then 0x17 else 0x37) → rd w ≡ d
      → imm_u w ≡ n → meaning w ≡ Some (Upper auipc d n)
  upper_is true d n is a b = meaning_auipc w is ∙ (cc)
  upper_is false d n is a b = meaning_lui w is ∙ (cc)

  jal_is : (d : ℕ) (z : ℤ) → bit_and w 127 ≡ 0x6F → rd w ≡ d → imm_j w ≡ z
      → meaning w ≡ Some (Jal d z)
  jal_is d z is a b = meaning_jal w is ∙ (cc)

  jalr_is : (d r1 : ℕ) (z : ℤ) → bit_and w 127 ≡ 0x67 → bit_and w 0x707F ≡ 0x67 → rd w ≡ d
      → rs1 w ≡ r1 → imm_i w ≡ z → meaning w ≡ Some (Jalr d r1 z)
  jalr_is d r1 z is e a b c = meaning_jalr w is ∙ rw e (cc)

-- ---- by format

module _ (w opcode funct3 funct7 d s1 s2 : ℕ) (f : Fields w opcode funct3 funct7 d s1 s2) where
  by_opcode_is : bit_and w 127 ≡ opcode
  by_opcode_is = opcode_mask w ∙ f.opcode_is

  by_funct3_is : bit_and w 0x707F ≡ funct3 * 2 ^ 12 + opcode
  by_funct3_is = omega (arith, funct3_mask w, f.opcode_is, f.funct3_is)

  by_funct7_is : bit_and w 0xFE00707F ≡ funct7 * 2 ^ 25 + funct3 * 2 ^ 12 + opcode
  by_funct7_is = omega (arith, funct7_mask w, f.opcode_is, f.funct3_is, f.funct7_is)

-- the format I
i_imm : (w opcode funct3 d s1 n : ℕ) → n < 2 ^ 12
    → Fields w opcode funct3 (n / 2 ^ 5) d s1 (n % 2 ^ 5) → field 31 20 w ≡ n
i_imm w opcode funct3 d s1 n h f = omega (arith, f.funct7_is, f.rs2_is)

s_imm : (w opcode funct3 s1 s2 n : ℕ) → n < 2 ^ 12
    → Fields w opcode funct3 (field 11 5 n) (field 4 0 n) s1 s2 → bits_s w ≡ n
s_imm w opcode funct3 s1 s2 n h f = omega (arith, f.funct7_is, f.rd_is)

b_imm : (w opcode funct3 s1 s2 n : ℕ) → n < 2 ^ 13 → n % 2 ≡ 0
    → Fields w opcode funct3 (field 12 12 n * 2 ^ 6 + field 10 5 n)
    (field 4 1 n * 2 + field 11 11 n) s1 s2 → bits_b w ≡ n
b_imm w opcode funct3 s1 s2 n h e f =
    let a : field 31 31 w ≡ field 12 12 n = omega (arith, f.funct7_is) in
    let b : field 30 25 w ≡ field 10 5 n = omega (arith, f.funct7_is) in
    let c : field 11 8 w ≡ field 4 1 n = omega (arith, f.rd_is) in
    let g : field 7 7 w ≡ field 11 11 n = omega (arith, f.rd_is) in
    rw (a, b, c, g) (omega arith)

branch_again : (op : BranchOp) (s1 s2 : ℕ) (z : ℤ) → IsValid (Branch op s1 s2 z)
    → meaning (encoding (Branch op s1 s2 z)) ≡ Some (Branch op s1 s2 z)
branch_again op s1 s2 z v =
    let n = twos 13 z in
    let l = twos_below_13 z v.2 in
    let c = branch_below op in
    let w = b_type 0x63 (branch_funct3 op) s1 s2 n in
    let f7 = field 12 12 n * 2 ^ 6 + field 10 5 n in
    let d = field 4 1 n * 2 + field 11 11 n in
    let f : Fields w 0x63 (branch_funct3 op) f7 d s1 s2 =
    r_fields 0x63 (branch_funct3 op) f7 d s1 s2 (lit< tt) c (omega arith)
    (omega arith) v.0 v.1 in
    branch_is w op s1 s2 z (by_opcode_is w _ _ _ _ _ _ f)
    (branch_named op w (by_funct3_is w _ _ _ _ _ _ f)) f.rs1_is f.rs2_is
    (ap (sign_extended 13) (b_imm w _ _ _ _ n l.0 l.1 f) ∙ extended-twos_13 z v.2)

load_again : (op : LoadOp) (d s1 : ℕ) (z : ℤ) → IsValid (Load op d s1 z)
    → meaning (encoding (Load op d s1 z)) ≡ Some (Load op d s1 z)
load_again op d s1 z v =
    let n = twos 12 z in
    let l = twos_below_12 z v.2 in
    let w = i_type 0x03 (load_funct3 op) d s1 n in
    let f = i_fields 0x03 (load_funct3 op) d s1 n (lit< tt) (load_below op) v.0 v.1 l in
    load_is w op d s1 z (by_opcode_is w _ _ _ _ _ _ f)
    (load_named op w (by_funct3_is w _ _ _ _ _ _ f)) f.rd_is f.rs1_is
    (ap (sign_extended 12) (i_imm w _ _ _ _ n l f) ∙ extended-twos_12 z v.2)

store_again : (op : StoreOp) (s1 s2 : ℕ) (z : ℤ) → IsValid (Store op s1 s2 z)
    → meaning (encoding (Store op s1 s2 z)) ≡ Some (Store op s1 s2 z)
store_again op s1 s2 z v =
    let n = twos 12 z in
    let l = twos_below_12 z v.2 in
    let w = s_type 0x23 (store_funct3 op) s1 s2 n in
    let f : Fields w 0x23 (store_funct3 op) (field 11 5 n) (field 4 0 n) s1 s2 =
    r_fields 0x23 (store_funct3 op) (field 11 5 n) (field 4 0 n) s1 s2 (lit< tt)
    (store_below op) (omega arith) (omega arith) v.0 v.1 in
    store_is w op s1 s2 z (by_opcode_is w _ _ _ _ _ _ f)
    (store_named op w (by_funct3_is w _ _ _ _ _ _ f)) f.rs1_is f.rs2_is
    (ap (sign_extended 12) (s_imm w _ _ _ _ n l f) ∙ extended-twos_12 z v.2)

plain_again : (op : ImmOp) (d s1 : ℕ) (z : ℤ) → IsValid (Imm op d s1 z)
    → meaning (encoding (Imm op d s1 z)) ≡ Some (Imm op d s1 z)
plain_again op d s1 z v =
    let n = twos 12 z in
    let l = twos_below_12 z v.2 in
    let w = i_type 0x13 (imm_funct3 op) d s1 n in
    let f = i_fields 0x13 (imm_funct3 op) d s1 n (lit< tt) (imm_below op) v.0 v.1 l in
    plain_is w op d s1 z (by_opcode_is w _ _ _ _ _ _ f)
    (plain_named op w (by_funct3_is w _ _ _ _ _ _ f)) f.rd_is f.rs1_is
    (ap (sign_extended 12) (i_imm w _ _ _ _ n l f) ∙ extended-twos_12 z v.2)

jalr_again : (d s1 : ℕ) (z : ℤ) → IsValid (Jalr d s1 z)
    → meaning (encoding (Jalr d s1 z)) ≡ Some (Jalr d s1 z)
jalr_again d s1 z v =
    let n = twos 12 z in
    let l = twos_below_12 z v.2 in
    let w = i_type 0x67 0 d s1 n in
    let f = i_fields 0x67 0 d s1 n (lit< tt) (lit< tt) v.0 v.1 l in
    jalr_is w d s1 z (by_opcode_is w _ _ _ _ _ _ f) (by_funct3_is w _ _ _ _ _ _ f) f.rd_is f.rs1_is
    (ap (sign_extended 12) (i_imm w _ _ _ _ n l f) ∙ extended-twos_12 z v.2)

fence_again : (fetch : Bool) (d s1 n : ℕ) → IsValid (Fence fetch d s1 n)
    → meaning (encoding (Fence fetch d s1 n)) ≡ Some (Fence fetch d s1 n)
fence_again fetch d s1 n v =
    let w = i_type 0x0F (one_if fetch) d s1 n in
    let f = i_fields 0x0F (one_if fetch) d s1 n (lit< tt) (one_below fetch) v.0 v.1 v.2 in
    fence_is w fetch d s1 n (by_opcode_is w _ _ _ _ _ _ f)
    (fence_named fetch w (by_funct3_is w _ _ _ _ _ _ f)) f.rd_is f.rs1_is
    (i_imm w _ _ _ _ n v.2 f)

shift_again : (op : ShiftOp) (d s1 n : ℕ) → IsValid (Shift op d s1 n)
    → meaning (encoding (Shift op d s1 n)) ≡ Some (Shift op d s1 n)
shift_again op d s1 n v =
    let w = r_type 0x13 (shift_funct3 op) (shift_funct7 op) d s1 n in
    let f = r_fields 0x13 (shift_funct3 op) (shift_funct7 op) d s1 n (lit< tt) (shift_below op)
    (shift7_below op) v.0 v.1 v.2 in
    shift_is w op d s1 n (by_opcode_is w _ _ _ _ _ _ f)
    (shift_named op w (by_funct3_is w _ _ _ _ _ _ f) (by_funct7_is w _ _ _ _ _ _ f)) f.rd_is
    f.rs1_is f.rs2_is

register_again : (op : RegOp) (d s1 s2 : ℕ) → IsValid (Reg op d s1 s2)
    → meaning (encoding (Reg op d s1 s2)) ≡ Some (Reg op d s1 s2)
register_again op d s1 s2 v =
    let w = r_type 0x33 (reg_funct3 op) (reg_funct7 op) d s1 s2 in
    let f = r_fields 0x33 (reg_funct3 op) (reg_funct7 op) d s1 s2 (lit< tt) (reg_below op)
    (reg7_below op) v.0 v.1 v.2 in
    register_is w op d s1 s2 (by_opcode_is w _ _ _ _ _ _ f)
    (register_named op w (by_funct7_is w _ _ _ _ _ _ f)) f.rd_is f.rs1_is f.rs2_is

-- ---- the atomic operations

flag_of : (b : Bool) → (one_if b == 1) ≡ b
flag_of true = refl
flag_of false = refl

record AmoFields (w funct5 d s1 s2 : ℕ) (aq rl : Bool) : Type 0 where
  opcode_is : bit_and w 127 ≡ 0x2F
  funct5_is : field 31 27 w ≡ funct5
  mask_is : bit_and w 0xF800707F ≡ funct5 * 2 ^ 27 + 2 * 2 ^ 12 + 0x2F
  alone_is : bit_and w 0xF9F0707F ≡ funct5 * 2 ^ 27 + s2 * 2 ^ 20 + 2 * 2 ^ 12 + 0x2F
  rd_is : rd w ≡ d
  rs1_is : rs1 w ≡ s1
  rs2_is : rs2 w ≡ s2
  aq_is : flag 26 w ≡ aq
  rl_is : flag 25 w ≡ rl

amo_split : (w funct5 d s1 s2 a r : ℕ) (aq rl : Bool) → a < 2 → r < 2 → funct5 < 32 → (a == 1) ≡ aq
    → (r == 1) ≡ rl → Fields w 0x2F 2 (funct5 * 2 ^ 2 + a * 2 + r) d s1 s2
    → AmoFields w funct5 d s1 s2 aq rl
amo_split w funct5 d s1 s2 a r aq rl al rl_l l ea er f =
    let e5 : field 31 27 w ≡ funct5 = omega (arith, f.funct7_is) in
    let ia : field 26 26 w ≡ a = omega (arith, f.funct7_is) in
    let ir : field 25 25 w ≡ r = omega (arith, f.funct7_is) in
    record {
      opcode_is = opcode_mask w ∙ f.opcode_is;
      funct5_is = e5;
      mask_is = omega (arith, funct5_mask w, e5, f.opcode_is, f.funct3_is);
      alone_is = omega (arith, funct5_alone_mask w, e5, f.opcode_is, f.funct3_is, f.rs2_is);
      rd_is = f.rd_is;
      rs1_is = f.rs1_is;
      rs2_is = f.rs2_is;
      aq_is = ap (λ v. v == 1) ia ∙ ea;
      rl_is = ap (λ v. v == 1) ir ∙ er;
    }

amo_fields : (op : AmoOp) (d s1 s2 : ℕ) (aq rl : Bool) → d < 32 → s1 < 32 → s2 < 32
    → AmoFields (encoding (Amo op d s1 s2 aq rl)) (amo_funct5 op) d s1 s2 aq rl
amo_fields op d s1 s2 aq rl a b c =
    let a2 = bit_below aq in
    let r2 = bit_below rl in
    let l = amo_below op in
    let f7 = amo_funct5 op * 2 ^ 2 + one_if aq * 2 + one_if rl in
    amo_split (encoding (Amo op d s1 s2 aq rl)) (amo_funct5 op) d s1 s2 (one_if aq)
    (one_if rl) aq rl a2 r2 l (flag_of aq) (flag_of rl)
    (r_fields 0x2F 2 f7 d s1 s2 (lit< tt) (lit< tt) (omega arith) a b c)

amo_lr : (d s1 s2 : ℕ) (aq rl : Bool) → d < 32 → s1 < 32 → s2 ≡ 0
    → meaning (encoding (Amo LrW d s1 s2 aq rl)) ≡ Some (Amo LrW d s1 s2 aq rl)
amo_lr d s1 s2 aq rl a b z =
    let f = amo_fields LrW d s1 s2 aq rl a b (omega arith) in
    amo_is (encoding (Amo LrW d s1 s2 aq rl)) LrW d s1 s2 aq rl f.opcode_is
    (lr_named (encoding (Amo LrW d s1 s2 aq rl)) (omega (arith, f.alone_is, z))) f.rd_is
    f.rs1_is f.rs2_is f.aq_is f.rl_is

amo_free : (op : AmoOp) (d s1 s2 : ℕ) (aq rl : Bool) → (amo_funct5 op == 2) ≡ false → d < 32
    → s1 < 32 → s2 < 32 → meaning (encoding (Amo op d s1 s2 aq rl)) ≡ Some (Amo op d s1 s2 aq rl)
amo_free op d s1 s2 aq rl n a b c =
    let f = amo_fields op d s1 s2 aq rl a b c in
    amo_is (encoding (Amo op d s1 s2 aq rl)) op d s1 s2 aq rl f.opcode_is
    (free_named op (encoding (Amo op d s1 s2 aq rl)) n f.mask_is) f.rd_is f.rs1_is f.rs2_is
    f.aq_is f.rl_is

amo_again : (op : AmoOp) (d s1 s2 : ℕ) (aq rl : Bool) → IsValid (Amo op d s1 s2 aq rl)
    → meaning (encoding (Amo op d s1 s2 aq rl)) ≡ Some (Amo op d s1 s2 aq rl)
amo_again LrW d s1 s2 aq rl v = amo_lr d s1 s2 aq rl v.0 v.1 v.2
amo_again ScW d s1 s2 aq rl v = amo_free ScW d s1 s2 aq rl refl v.0 v.1 v.2
amo_again AmoswapW d s1 s2 aq rl v = amo_free AmoswapW d s1 s2 aq rl refl v.0 v.1 v.2
amo_again AmoaddW d s1 s2 aq rl v = amo_free AmoaddW d s1 s2 aq rl refl v.0 v.1 v.2
amo_again AmoxorW d s1 s2 aq rl v = amo_free AmoxorW d s1 s2 aq rl refl v.0 v.1 v.2
amo_again AmoandW d s1 s2 aq rl v = amo_free AmoandW d s1 s2 aq rl refl v.0 v.1 v.2
amo_again AmoorW d s1 s2 aq rl v = amo_free AmoorW d s1 s2 aq rl refl v.0 v.1 v.2
amo_again AmominW d s1 s2 aq rl v = amo_free AmominW d s1 s2 aq rl refl v.0 v.1 v.2
amo_again AmomaxW d s1 s2 aq rl v = amo_free AmomaxW d s1 s2 aq rl refl v.0 v.1 v.2
amo_again AmominuW d s1 s2 aq rl v = amo_free AmominuW d s1 s2 aq rl refl v.0 v.1 v.2
amo_again AmomaxuW d s1 s2 aq rl v = amo_free AmomaxuW d s1 s2 aq rl refl v.0 v.1 v.2

-- ---- the formats U and J

upper_again : (auipc : Bool) (d n : ℕ) → IsValid (Upper auipc d n)
    → meaning (encoding (Upper auipc d n)) ≡ Some (Upper auipc d n)
upper_again auipc d n v =
    let o = if auipc then 0x17 else 0x37 in
    let l : o < 128 = upper_below auipc in
    let w = u_type o d n in
    upper_is w auipc d n (omega (arith, opcode_mask w, v.0, v.1, v.2))
    (omega (arith, v.0, v.1, v.2)) (omega (arith, v.0, v.1, v.2))

record JFields (w d n : ℕ) : Type 0 where
  opcode_is : field 6 0 w ≡ 0x6F
  rd_is : rd w ≡ d
  top : field 31 31 w ≡ field 20 20 n
  high : field 19 12 w ≡ field 19 12 n
  next : field 20 20 w ≡ field 11 11 n
  low : field 30 21 w ≡ field 10 1 n

j_fields : (d n t h x l : ℕ) → d < 32 → field 20 20 n ≡ t → field 19 12 n ≡ h → field 11 11 n ≡ x
    → field 10 1 n ≡ l → t < 2 → h < 256 → x < 2 → l < 1024
    → JFields (t * 2 ^ 31 + l * 2 ^ 21 + x * 2 ^ 20 + h * 2 ^ 12 + d * 2 ^ 7 + 0x6F) d n
j_fields d n t h x l a et eh ex el tl hl xl ll = record {
  opcode_is = omega (arith, a, tl, hl, xl, ll);
  rd_is = omega (arith, a, tl, hl, xl, ll);
  top = let e : field 31 31 (t * 2 ^ 31 + l * 2 ^ 21 + x * 2 ^ 20 + h * 2 ^ 12 + d * 2 ^ 7 + 0x6F)
      ≡ t = omega (arith, a, tl, hl, xl, ll) in e ∙ sym et;
  high = let e : field 19 12 (t * 2 ^ 31 + l * 2 ^ 21 + x * 2 ^ 20 + h * 2 ^ 12 + d * 2 ^ 7 + 0x6F)
      ≡ h = omega (arith, a, tl, hl, xl, ll) in e ∙ sym eh;
  next = let e : field 20 20 (t * 2 ^ 31 + l * 2 ^ 21 + x * 2 ^ 20 + h * 2 ^ 12 + d * 2 ^ 7 + 0x6F)
      ≡ x = omega (arith, a, tl, hl, xl, ll) in e ∙ sym ex;
  low = let e : field 30 21 (t * 2 ^ 31 + l * 2 ^ 21 + x * 2 ^ 20 + h * 2 ^ 12 + d * 2 ^ 7 + 0x6F)
      ≡ l = omega (arith, a, tl, hl, xl, ll) in e ∙ sym el;
}

j_imm : (w d n : ℕ) → n < 2 ^ 21 → n % 2 ≡ 0 → JFields w d n → bits_j w ≡ n
j_imm w d n h e f = rw (f.top, f.high, f.next, f.low) (omega (arith, h, e))

jal_again : (d : ℕ) (z : ℤ) → IsValid (Jal d z) → meaning (encoding (Jal d z)) ≡ Some (Jal d z)
jal_again d z v =
    let n = twos 21 z in
    let l = twos_below_21 z v.1 in
    let w = j_type 0x6F d n in
    let f : JFields w d n =
    j_fields d n (field 20 20 n) (field 19 12 n) (field 11 11 n)
    (field 10 1 n) v.0 refl refl refl refl (omega arith) (omega arith) (omega arith)
    (omega arith) in
    jal_is w d z (opcode_mask w ∙ f.opcode_is) f.rd_is
    (ap (sign_extended 21) (j_imm w d n l.0 l.1 f) ∙ extended-twos_21 z v.1)

ecall_again : meaning 0x00000073 ≡ Some Ecall
unfolding system_in found
ecall_again = meaning_system 0x00000073 refl

ebreak_again : meaning 0x00100073 ≡ Some Ebreak
unfolding system_in found
ebreak_again = meaning_system 0x00100073 refl

pub encoding_again : (i : Instr) → IsValid i → meaning (encoding i) ≡ Some i
encoding_again (Upper auipc d n) v = upper_again auipc d n v
encoding_again (Jal d z) v = jal_again d z v
encoding_again (Jalr d s1 z) v = jalr_again d s1 z v
encoding_again (Branch op s1 s2 z) v = branch_again op s1 s2 z v
encoding_again (Load op d s1 z) v = load_again op d s1 z v
encoding_again (Store op s1 s2 z) v = store_again op s1 s2 z v
encoding_again (Imm op d s1 z) v = plain_again op d s1 z v
encoding_again (Shift op d s1 n) v = shift_again op d s1 n v
encoding_again (Reg op d s1 s2) v = register_again op d s1 s2 v
encoding_again (Amo op d s1 s2 aq rl) v = amo_again op d s1 s2 aq rl v
encoding_again (Fence fetch d s1 n) v = fence_again fetch d s1 n v
encoding_again Ecall v = ecall_again
encoding_again Ebreak v = ebreak_again
