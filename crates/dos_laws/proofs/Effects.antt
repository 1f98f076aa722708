-- The registers that an effect leaves are in range.
use Rattle.std.proofs.Common.{ℕ, ◌+◌, ◌*◌, ◌/◌, ◌%◌, ◌^◌, ◌<◌, Bool, true, false, cond, not, Some}
use Rattle.std.proofs.Common.{None, arith}
use Rattle.std.specs.Prelude.{⊤, ◌==◌}
use Rattle.dos_world.specs.World.{Registers, get, set, with_pc, code_unit}
use Rattle.dos_world.specs.Lawful.{AreRegisters}
use Rattle.dos_world.specs.declared.Reason.TheVariants.{Fault}
use Rattle.rv_isa.specs.declared.AmoOp.{AmoOp}
use Rattle.rv_isa.specs.declared.AmoOp.TheVariants.{LrW, ScW, AmoswapW, AmoaddW, AmoxorW, AmoandW}
use Rattle.rv_isa.specs.declared.AmoOp.TheVariants.{AmoorW, AmominW, AmomaxW, AmominuW, AmomaxuW}
use Rattle.rv_isa.specs.declared.Instr.{Instr}
use Rattle.rv_isa.specs.declared.Instr.TheVariants.{Upper, Jal, Jalr, Branch, Load, Store, Imm}
use Rattle.rv_isa.specs.declared.Instr.TheVariants.{Shift, Reg, Amo, Fence, Ecall, Ebreak}
use Rattle.rv_isa.specs.Valid.{IsValid}
use Rattle.flat_machine.specs.Effect.{Effect, goes, loads, stores, claims, stops, effect, jumps}
use Rattle.flat_machine.specs.Effect.{onward}
use Rattle.flat_machine.specs.Effect.{next_address, atomic, is_taken, plus, test, is_held}
use Rattle.flat_machine.specs.Effect.{register_result, immediate_result, shift_result, load_result}
use Rattle.dos_laws.proofs.RegisterRanges.{set_ranges, with_pc_ranges, with_held_ranges, get_range}
use Rattle.dos_laws.proofs.Words.{register_word, immediate_word, shift_word, load_word, plus_word}
use Rattle.dos_laws.proofs.Words.{test_word}

-- what an effect leaves of registers in range, whatever word it loads
abbrev pub IsInRange : Effect → Type 0
IsInRange (goes r) = AreRegisters r
IsInRange (loads address size next) = (n : ℕ) → n < 2 ^ 32 → AreRegisters (next n)
IsInRange (stores address size value r) = AreRegisters r
IsInRange (claims address next new) = (n : ℕ) → n < 2 ^ 32 → AreRegisters (next n)
IsInRange (stops reason) = ⊤

onward_ranges : (size : ℕ) (r : Registers) → AreRegisters r → AreRegisters (onward size r)
onward_ranges size r a = with_pc_ranges r (next_address size r) (omega arith) a

jumps_ranges : (target : ℕ) (r : Registers) → target < 2 ^ 32 → AreRegisters r
    → IsInRange (jumps target r)
jumps_ranges target r h a = go (target % code_unit == 0)
  where
    go : (b : Bool) → IsInRange (cond b (goes (with_pc r target)) (stops (Fault 7)))
    go true = with_pc_ranges r target h a
    go false = tt

branch_ranges : (b : Bool) (target size : ℕ) (r : Registers) → target < 2 ^ 32 → AreRegisters r
    → IsInRange (cond b (jumps target r) (goes (onward size r)))
branch_ranges true target size r h a = jumps_ranges target r h a
branch_ranges false target size r h a = onward_ranges size r a

atomic_ranges : (op : AmoOp) (rd address b : ℕ) (r : Registers) → address < 2 ^ 32 → AreRegisters r
    → IsInRange (atomic op rd address b r)
atomic_ranges LrW rd address b r h a = λ n word.
    with_held_ranges (set r rd n) (Some address) h (set_ranges r rd n word a)
atomic_ranges ScW rd address b r h a = λ n word.
    with_held_ranges (set r rd (test (not (is_held r.held address)))) None tt
    (set_ranges r rd (test (not (is_held r.held address)))
    (test_word (not (is_held r.held address))) a)
atomic_ranges AmoswapW rd address b r h a = λ n word. set_ranges r rd n word a
atomic_ranges AmoaddW rd address b r h a = λ n word. set_ranges r rd n word a
atomic_ranges AmoxorW rd address b r h a = λ n word. set_ranges r rd n word a
atomic_ranges AmoandW rd address b r h a = λ n word. set_ranges r rd n word a
atomic_ranges AmoorW rd address b r h a = λ n word. set_ranges r rd n word a
atomic_ranges AmominW rd address b r h a = λ n word. set_ranges r rd n word a
atomic_ranges AmomaxW rd address b r h a = λ n word. set_ranges r rd n word a
atomic_ranges AmominuW rd address b r h a = λ n word. set_ranges r rd n word a
atomic_ranges AmomaxuW rd address b r h a = λ n word. set_ranges r rd n word a

-- An instruction that has a word leaves registers in range.
pub effect_ranges : (i : Instr) (size : ℕ) (r : Registers) → IsValid i → AreRegisters r
    → IsInRange (effect i size r)
unfolding effect
effect_ranges (Upper false rd imm) size r v a =
    set_ranges (onward size r) rd imm v.2 (onward_ranges size r a)
effect_ranges (Upper true rd imm) size r v a =
    set_ranges (onward size r) rd ((r.pc + imm) % 2 ^ 32) (omega arith) (onward_ranges size r a)
effect_ranges (Jal rd offset) size r v a =
    jumps_ranges (plus r.pc offset) (set r rd (next_address size r)) (plus_word r.pc offset)
    (set_ranges r rd (next_address size r) (omega arith) a)
effect_ranges (Jalr rd rs1 offset) size r v a =
    jumps_ranges (plus (get r rs1) offset / 2 * 2) (set r rd (next_address size r))
    (omega (arith, plus_word (get r rs1) offset))
    (set_ranges r rd (next_address size r) (omega arith) a)
effect_ranges (Branch op rs1 rs2 offset) size r v a =
    branch_ranges (is_taken op (get r rs1) (get r rs2)) (plus r.pc offset) size r
    (plus_word r.pc offset) a
effect_ranges (Load op rd rs1 offset) size r v a = λ n word.
    set_ranges (onward size r) rd (load_result op n) (load_word op n word) (onward_ranges size r a)
effect_ranges (Store op rs1 rs2 offset) size r v a = onward_ranges size r a
effect_ranges (Imm op rd rs1 imm) size r v a =
    set_ranges (onward size r) rd (immediate_result op (get r rs1) imm)
    (immediate_word op (get r rs1) imm (get_range r rs1 a) v.2) (onward_ranges size r a)
effect_ranges (Shift op rd rs1 amount) size r v a =
    set_ranges (onward size r) rd (shift_result op (get r rs1) amount)
    (shift_word op (get r rs1) amount (get_range r rs1 a)) (onward_ranges size r a)
effect_ranges (Reg op rd rs1 rs2) size r v a =
    set_ranges (onward size r) rd (register_result op (get r rs1) (get r rs2))
    (register_word op (get r rs1) (get r rs2) (get_range r rs1 a) (get_range r rs2 a))
    (onward_ranges size r a)
effect_ranges (Amo op rd rs1 rs2 aq rl) size r v a =
    atomic_ranges op rd (get r rs1) (get r rs2) (onward size r) (get_range r rs1 a)
    (onward_ranges size r a)
effect_ranges (Fence fetch rd rs1 imm) size r v a = onward_ranges size r a
effect_ranges Ecall size r v a = tt
effect_ranges Ebreak size r v a = tt
