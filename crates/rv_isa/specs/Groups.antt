-- The operations of one opcode by their fields alone: the table's rows, of the RISC-V unprivileged
-- manual's instruction listings.
use Rattle.std.specs.Prelude.{ℕ, List, [], ◌∷◌, ◌++◌, Option, Some, None, ◌==◌, if◌then◌else◌}
use Rattle.rv_isa.specs.declared.Arithmetic.{Arithmetic}
use Rattle.rv_isa.specs.declared.RegOp.{RegOp}
use Rattle.rv_isa.specs.Meaning.{Row, with_funct3, with_funct7, arithmetic_rows, register_rows}
use Rattle.rv_isa.specs.Meaning.{multiply_rows}

-- the name in the first row of these fields, where rows look at funct3, and some at funct7 too
abbrev pub by_fields : {A : Type 0} → List (Row A) → ℕ → ℕ → ℕ → Option A
by_fields [] opcode funct7 funct3 = None
by_fields (row ∷ rows) opcode funct7 funct3 =
    let value : ℕ =
    if row.mask == 0x707F then with_funct3 opcode funct3
    else with_funct7 opcode funct7 funct3 in
    if value == row.value then Some row.name else by_fields rows opcode funct7 funct3

-- the operation on a register and a constant, opcode 0x13
abbrev pub arithmetic_by : ℕ → ℕ → Option Arithmetic
arithmetic_by funct7 funct3 = by_fields arithmetic_rows 0x13 funct7 funct3

-- the operation on two registers, opcode 0x33
abbrev pub register_by : ℕ → ℕ → Option RegOp
register_by funct7 funct3 = by_fields (register_rows ++ multiply_rows) 0x33 funct7 funct3
