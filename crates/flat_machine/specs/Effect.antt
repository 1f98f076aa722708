-- What an instruction does: it changes registers alone, or makes one access to memory, or stops.
-- RISC-V unprivileged manual, edition 20191213; the reservation is this project's own.
use Rattle.std.specs.Prelude.{ℕ, ◌+◌, ◌*◌, ◌/◌, ◌%◌, ◌^◌, min, max, Bool, true, false, not, Option}
use Rattle.std.specs.Prelude.{Some, None, ◌==◌, if◌then◌else◌, bit_and, bit_or, bit_xor}
use Rattle.dos_world.specs.World.{Registers, code_unit, get, set, with_pc, with_held}
use Rattle.dos_world.specs.declared.Size.{Size}
use Rattle.dos_world.specs.declared.Reason.{Reason}
use Rattle.dos_world.specs.declared.Reason.TheVariants.{Fault, Service}
use Rattle.rv_isa.specs.declared.AmoOp.{AmoOp}
use Rattle.rv_isa.specs.declared.AmoOp.TheVariants.{LrW, ScW, AmoswapW, AmoaddW, AmoxorW, AmoandW}
use Rattle.rv_isa.specs.declared.AmoOp.TheVariants.{AmoorW, AmominW, AmomaxW, AmominuW, AmomaxuW}
use Rattle.rv_isa.specs.declared.Instr.{Instr}
use Rattle.rv_isa.specs.declared.Instr.TheVariants.{Upper, Jal, Jalr, Branch, Load, Store, Imm}
use Rattle.rv_isa.specs.declared.Instr.TheVariants.{Shift, Reg, Amo, Fence, Ecall, Ebreak}
pub use Rattle.flat_machine.specs.Arithmetic.{signed, unsigned, plus, test, register_result}
pub use Rattle.flat_machine.specs.Arithmetic.{immediate_result, shift_result, is_taken, load_size}
pub use Rattle.flat_machine.specs.Arithmetic.{load_result, store_size, lesser, greater}

pub data Effect : Type 0 where
  -- to these registers, with no access
  goes : Registers → Effect
  -- a load, and the registers by the number loaded
  loads : (address : ℕ) → Size → (ℕ → Registers) → Effect
  -- a store of the low bytes of the value, and the registers
  stores : (address : ℕ) → Size → (value : ℕ) → Registers → Effect
  -- a claim of a word: the registers by the old word, and the new word where one is stored
  claims : (address : ℕ) → (ℕ → Registers) → (ℕ → Option ℕ) → Effect
  -- nothing but a reason
  stops : Reason → Effect

-- ---- where pc goes

-- the address of the instruction behind one of this size; addresses are modulo 2^32. Section 2.5.
abbrev pub next_address : ℕ → Registers → ℕ
next_address size r = (r.pc + size) % 2 ^ 32

-- the registers with pc at the instruction behind
abbrev pub onward : ℕ → Registers → Registers
onward size r = with_pc r (next_address size r)

-- A jump to a target where no instruction may stand is fault 7 of the jump itself. Section 2.5.
abbrev pub jumps : ℕ → Registers → Effect
jumps target r = if target % code_unit == 0 then goes (with_pc r target) else stops (Fault 7)

-- ---- atomic instructions, on one word; r has pc at the instruction behind already

-- whether this address is reserved
abbrev pub is_held : Option ℕ → ℕ → Bool
is_held None address = false
is_held (Some word) address = word == address

-- lr.w: the word, and its address is reserved. Section 8.2.
abbrev pub link : ℕ → ℕ → Registers → Effect
link rd address r = claims address (λ old. with_held (set r rd old) (Some address)) (λ old. None)

-- sc.w: where it passes, the value is stored and rd is 0, else rd is 1. Nothing is reserved
-- afterwards. Section 8.2.
abbrev pub conditional : ℕ → ℕ → ℕ → Bool → Registers → Effect
conditional rd address value passes r =
    claims address (λ old. with_held (set r rd (test (not passes))) None)
    (λ old. if passes then Some value else None)

-- an AMO: rd is the old word, and what is made of it is stored. Section 8.4.
abbrev pub exchange : ℕ → ℕ → (ℕ → ℕ) → Registers → Effect
exchange rd address new r = claims address (λ old. set r rd old) (λ old. Some (new old))

-- What an AMO stores, by the old word and b in rs2. Section 8.4. lr.w and sc.w are no AMOs, and
-- store nothing by this.
abbrev pub combined : AmoOp → ℕ → ℕ → ℕ
combined AmoswapW old b = b
combined AmoaddW old b = (old + b) % 2 ^ 32
combined AmoxorW old b = bit_xor old b
combined AmoandW old b = bit_and old b
combined AmoorW old b = bit_or old b
combined AmominW old b = lesser old b
combined AmomaxW old b = greater old b
combined AmominuW old b = min old b
combined AmomaxuW old b = max old b
combined LrW old b = old
combined ScW old b = old

-- by the operation, with the address in rs1 and b in rs2; aq and rl have no effect. Sections 8.2
-- and 8.4.
abbrev pub atomic : AmoOp → ℕ → ℕ → ℕ → Registers → Effect
atomic LrW rd address b r = link rd address r
atomic ScW rd address b r = conditional rd address b (is_held r.held address) r
atomic op rd address b r = exchange rd address (λ old. combined op old b) r

-- ---- the instructions

-- An instruction of this size in these registers. Sections 2.4 to 2.8, 3 (fence.i), 7 and 8.
unfoldable pub effect : Instr → ℕ → Registers → Effect
effect (Upper false rd imm) size r = goes (set (onward size r) rd imm)
effect (Upper true rd imm) size r = goes (set (onward size r) rd ((r.pc + imm) % 2 ^ 32))
effect (Jal rd offset) size r = jumps (plus r.pc offset) (set r rd (next_address size r))
effect (Jalr rd rs1 offset) size r =
    jumps (plus (get r rs1) offset / 2 * 2) (set r rd (next_address size r))
effect (Branch op rs1 rs2 offset) size r =
    if is_taken op (get r rs1) (get r rs2) then jumps (plus r.pc offset) r else goes (onward size r)
effect (Load op rd rs1 offset) size r =
    loads (plus (get r rs1) offset) (load_size op) (λ n. set (onward size r) rd (load_result op n))
effect (Store op rs1 rs2 offset) size r =
    stores (plus (get r rs1) offset) (store_size op) (get r rs2) (onward size r)
effect (Imm op rd rs1 imm) size r =
    goes (set (onward size r) rd (immediate_result op (get r rs1) imm))
effect (Shift op rd rs1 amount) size r =
    goes (set (onward size r) rd (shift_result op (get r rs1) amount))
effect (Reg op rd rs1 rs2) size r =
    goes (set (onward size r) rd (register_result op (get r rs1) (get r rs2)))
effect (Amo op rd rs1 rs2 aq rl) size r = atomic op rd (get r rs1) (get r rs2) (onward size r)
effect (Fence fetch rd rs1 imm) size r = goes (onward size r)
effect Ecall size r = stops Service
effect Ebreak size r = stops (Fault 5)
