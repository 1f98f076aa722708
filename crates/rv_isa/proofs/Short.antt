-- What a halfword expands to is valid, and one of the instructions that have a short form.
use Rattle.std.proofs.Common.{◌≡◌, ◌≢◌, ℕ, ◌+◌, ◌*◌, ◌%◌, ◌^◌, ◌<◌, List, [], ◌∷◌, Bool, true}
use Rattle.std.proofs.Common.{false}
use Rattle.std.proofs.Common.{Option, Some, None, ℤ, pos, refl, sym, ap, ◌∙◌, arith, lit<, IfSome}
use Rattle.std.proofs.Common.{inl}
use Rattle.std.proofs.Common.{inr, subst, eqb-true}
use Rattle.std.specs.Prelude.{bit_and, if◌then◌else◌, ◌==◌, option_and_then}
use Rattle.std.specs.Int.{w32, cast_unsigned}
use Rattle.std.proofs.lemmas.Int.{ints}
use Rattle.std.proofs.lemmas.Bool.Decides.{nat_tests}
use Rattle.rv_isa.specs.Fields.{field, sign_extended}
use Rattle.rv_isa.specs.Meaning.{Row, fits, found}
use Rattle.rv_isa.specs.Compressed as half
use Rattle.rv_isa.specs.Compressed.{expansion, expanded, rows, IsShort, unless}
use Rattle.rv_isa.specs.Valid.{IsValid, IsImmediate, IsBranchOffset, IsJumpOffset}
use Rattle.rv_isa.proofs.ByQuadrant.{single}
use Rattle.rv_isa.specs.declared.BranchOp.{BranchOp}
use Rattle.rv_isa.specs.declared.BranchOp.TheVariants.{Beq, Bne}
use Rattle.rv_isa.specs.declared.LoadOp.TheVariants.{Lw}
use Rattle.rv_isa.specs.declared.StoreOp.TheVariants.{Sw}
use Rattle.rv_isa.specs.declared.ImmOp.TheVariants.{Addi, Andi}
use Rattle.rv_isa.specs.declared.ShiftOp.{ShiftOp}
use Rattle.rv_isa.specs.declared.ShiftOp.TheVariants.{Slli, Srli, Srai}
use Rattle.rv_isa.specs.declared.RegOp.{RegOp}
use Rattle.rv_isa.specs.declared.RegOp.TheVariants.{Add, Sub, Xor, Or, And}
use Rattle.rv_isa.specs.declared.Instr.{Instr}
use Rattle.rv_isa.specs.declared.Instr.TheVariants.{Upper, Jal, Jalr, Branch, Load, Store, Imm}
use Rattle.rv_isa.specs.declared.Instr.TheVariants.{Shift, Reg, Ebreak}

-- ---- ranges

plain_range : (n : ℕ) → n < 2 ^ 11 → IsImmediate (pos n)
plain_range n h = (omega (arith, ints), omega (arith, ints))

small_range : (n : ℕ) → n < 2 ^ 6 → IsImmediate (sign_extended 6 n)
small_range n h = grind (arith, nat_tests, ints)

stack_range : (n : ℕ) → n < 2 ^ 10 → IsImmediate (sign_extended 10 n)
stack_range n h = grind (arith, nat_tests, ints)

branch_range : (n : ℕ) → n < 2 ^ 9 → n % 2 ≡ 0 → IsBranchOffset (sign_extended 9 n)
branch_range n h e = grind (arith, nat_tests, ints)

jump_range : (n : ℕ) → n < 2 ^ 12 → n % 2 ≡ 0 → IsJumpOffset (sign_extended 12 n)
jump_range n h e = grind (arith, nat_tests, ints)

upper_low : (n : ℕ) → n < 2 ^ 18 → n % 2 ^ 12 ≡ 0
    → cast_unsigned w32 (sign_extended 18 n) % 2 ^ 12 ≡ 0
upper_low n h e = grind (arith, nat_tests, ints)

upper_fits : (n : ℕ) → n < 2 ^ 18 → cast_unsigned w32 (sign_extended 18 n) < 2 ^ 32
upper_fits n h = grind (arith, nat_tests, ints)

-- ---- by row

abbrev IsGood : Instr → Type 0
IsGood i = IsValid i × IsShort i

abbrev GoodSome : Option Instr → Type 0
GoodSome o = IfSome o IsGood

good_unless : (b : Bool) (i : Instr) → IsGood i → GoodSome (unless b i)
good_unless true i g = tt
good_unless false i g = g

good_if : (b : Bool) (x y : Option Instr) → GoodSome x → GoodSome y
    → GoodSome (if b then x else y)
good_if true x y f g = f
good_if false x y f g = g

good_or : (b : Bool) (x y : Instr) → IsGood x → IsGood y → IsGood (if b then x else y)
good_or true x y f g = f
good_or false x y f g = g

abbrev GoodRow : Row (ℕ → Option Instr) → Type 0
GoodRow r = (h : ℕ) → GoodSome (r.name h)

abbrev AllGood : List (Row (ℕ → Option Instr)) → Type 0
AllGood [] = Unit {0}
AllGood (r ∷ rs) = GoodRow r × AllGood rs

module _ (h : ℕ) where
  rd_fits : half.rd h < 32
  rd_fits = omega arith

  rs2_fits : half.rs2 h < 32
  rs2_fits = omega arith

  high_fits : half.high_register h < 32
  high_fits = omega arith

  low_fits : half.low_register h < 32
  low_fits = omega arith

  two : 2 < 32
  two = lit< tt

  zero_fits : 0 < 32
  zero_fits = lit< tt

  good_addi4spn : GoodSome (half.addi4spn h)
  good_addi4spn = good_unless (half.imm_wide h == 0) _
      ((low_fits, two, plain_range (half.imm_wide h) (omega arith)), inl refl)

  good_lw : GoodSome (half.c_lw h)
  good_lw = ((low_fits, high_fits, plain_range (half.imm_word h) (omega arith)), refl)

  good_sw : GoodSome (half.c_sw h)
  good_sw = ((high_fits, low_fits, plain_range (half.imm_word h) (omega arith)), refl)

  good_addi : GoodSome (half.c_addi h)
  good_addi = ((rd_fits, rd_fits, small_range (half.bits_small h) (omega arith)), inl refl)

  good_jal : GoodSome (half.jal h)
  good_jal = ((lit< tt, jump_range (half.bits_jump h) (omega arith) (omega arith)), tt)

  good_li : GoodSome (half.c_li h)
  good_li = ((rd_fits, zero_fits, small_range (half.bits_small h) (omega arith)), inl refl)

  good_lui : GoodSome (half.lui_or_addi16sp h)
  good_lui = good_if (half.rd h == 2) (half.addi16sp h) (half.c_lui h)
      (good_unless (half.bits_stack h == 0) _
      ((two, two, stack_range (half.bits_stack h) (omega arith)), inl refl))
      (good_unless (half.bits_upper h == 0) _ (
        (
          rd_fits,
          upper_low (half.bits_upper h) (omega arith) (omega arith),
          upper_fits (half.bits_upper h) (omega arith),
        ),
        refl,
      ))

  good_shift : (op : ShiftOp) → GoodSome (half.shift_right op h)
  good_shift op = ((high_fits, high_fits, rs2_fits), tt)

  good_andi : GoodSome (half.c_andi h)
  good_andi = ((high_fits, high_fits, small_range (half.bits_small h) (omega arith)), inr refl)

  good_sub : GoodSome (half.register Sub h)
  good_sub = ((high_fits, high_fits, low_fits), inr (inl refl))

  good_xor : GoodSome (half.register Xor h)
  good_xor = ((high_fits, high_fits, low_fits), inr (inr (inl refl)))

  good_or_op : GoodSome (half.register Or h)
  good_or_op = ((high_fits, high_fits, low_fits), inr (inr (inr (inl refl))))

  good_and : GoodSome (half.register And h)
  good_and = ((high_fits, high_fits, low_fits), inr (inr (inr (inr refl))))

  good_j : GoodSome (half.j h)
  good_j = ((zero_fits, jump_range (half.bits_jump h) (omega arith) (omega arith)), tt)

  good_beqz : GoodSome (half.branch Beq h)
  good_beqz = (
    (
      high_fits,
      zero_fits,
      branch_range (half.bits_branch h) (omega arith)
          (omega arith),
    ),
    inl refl,
  )

  good_bnez : GoodSome (half.branch Bne h)
  good_bnez = (
    (
      high_fits,
      zero_fits,
      branch_range (half.bits_branch h) (omega arith)
          (omega arith),
    ),
    inr refl,
  )

  good_slli : GoodSome (half.c_slli h)
  good_slli = ((rd_fits, rd_fits, rs2_fits), tt)

  good_lwsp : GoodSome (half.lwsp h)
  good_lwsp = good_unless (half.rd h == 0) _
      ((rd_fits, two, plain_range (half.imm_load h) (omega arith)), refl)

  good_jr : GoodSome (half.jr h)
  good_jr = good_unless (half.rd h == 0) _
      ((zero_fits, rd_fits, plain_range 0 (lit< tt)), tt)

  good_jr_or_mv : GoodSome (half.jr_or_mv h)
  good_jr_or_mv = good_if (half.rs2 h == 0) (half.jr h) _ good_jr
      ((rd_fits, zero_fits, rs2_fits), inl refl)

  good_ebreak_or_jalr : GoodSome (half.ebreak_or_jalr h)
  good_ebreak_or_jalr = good_or (half.rd h == 0) Ebreak (Jalr 1 (half.rd h) (pos 0)) (tt, tt)
      ((lit< tt, rd_fits, plain_range 0 (lit< tt)), tt)

  good_jalr_or_add : GoodSome (half.jalr_or_add h)
  good_jalr_or_add = good_if (half.rs2 h == 0) (half.ebreak_or_jalr h) _ good_ebreak_or_jalr
      ((rd_fits, rd_fits, rs2_fits), inl refl)

  good_swsp : GoodSome (half.swsp h)
  good_swsp = ((two, rs2_fits, plain_range (half.imm_store h) (omega arith)), refl)

rows_are_good : AllGood rows
unfolding rows
rows_are_good = (
  good_addi4spn,
  (
    good_lw,
    (
      good_sw,
      (
        good_addi,
        (
          good_jal,
          (
            good_li,
            (
              good_lui,
              (
                (λ h.
                    good_shift h Srli),
                (
                  (λ h. good_shift h Srai),
                  (
                    good_andi,
                    (
                      good_sub,
                      (
                        good_xor,
                        (
                          good_or_op,
                          (
                            good_and,
                            (
                              good_j,
                              (
                                good_beqz,
                                (
                                  good_bnez,
                                  (
                                    good_slli,
                                    (
                                      good_lwsp,
                                      (good_jr_or_mv, (good_jalr_or_add, (good_swsp, tt))),
                                    ),
                                  ),
                                ),
                              ),
                            ),
                          ),
                        ),
                      ),
                    ),
                  ),
                ),
              ),
            ),
          ),
        ),
      ),
    ),
  ),
)

good_found : (rs : List (Row (ℕ → Option Instr))) → AllGood rs → (h : ℕ)
    → GoodSome (expanded rs h)
unfolding found
good_found [] good h = tt
good_found (r ∷ rs) good h = by (fits h r) (good_found rs good.1 h)
  where
    by : (b : Bool) → GoodSome (expanded rs h)
        → GoodSome (option_and_then (λ i. i h) (if b then Some r.name else found rs h))
    by true g = good.0 h
    by false g = g

good_parts : (o : Option Instr) → GoodSome o → IfSome o IsValid × IfSome o IsShort
good_parts None g = (tt, tt)
good_parts (Some i) g = g

good_expansion : (h : ℕ) → IfSome (expansion h) IsValid × IfSome (expansion h) IsShort
unfolding expansion
good_expansion h = good_parts (expanded rows h) (good_found rows rows_are_good h)

pub expansion_valid : (h : ℕ) → IfSome (expansion h) IsValid
expansion_valid h = (good_expansion h).0

pub expansion_short : (h : ℕ) → IfSome (expansion h) IsShort
expansion_short h = (good_expansion h).1

pub ruleset expansion_rules = (expansion_valid, expansion_short, single)
