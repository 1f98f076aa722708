-- The registers of a thread. RISC-V unprivileged manual, edition 20191213, section 2.1 (pc, x0 to
-- x31); the reservation of lr.w is this project's own.
use Rattle.std.specs.Prelude.{ℕ, zero, suc, ◌+◌, ◌%◌, ◌^◌, List, Option, None, replicate}
use Rattle.std.specs.Prelude.{slice_index, slice_set}

-- pc, x0 to x31, and the address that lr.w reserved
pub record Registers : Type 0 where
  pub pc : ℕ
  pub numbers : List ℕ
  pub held : Option ℕ

-- the value of register x(index)
abbrev pub get : Registers → ℕ → ℕ
get r index = slice_index r.numbers index

-- Register x0 is hardwired to 0: a write to it is dropped. Section 2.1 of the manual.
abbrev pub set : Registers → ℕ → ℕ → Registers
set r zero value = r
set r (suc i) value = record r { numbers = slice_set r.numbers (suc i) value }

-- the registers with another pc
abbrev pub with_pc : Registers → ℕ → Registers
with_pc r pc = record r { pc = pc }

-- the registers with another reservation
abbrev pub with_held : Registers → Option ℕ → Registers
with_held r held = record r { held = held }

-- the registers of a thread that begins at pc: all else 0, and no reservation
abbrev pub blank : ℕ → Registers
blank pc = record { pc = pc; numbers = replicate 32 0; held = None }

-- the registers without a reservation
abbrev pub released : Registers → Registers
released r = with_held r None

-- pc past an ecall, which is 4 bytes long; addresses are modulo 2^32
abbrev pub past : Registers → Registers
past r = with_pc r ((r.pc + 4) % 2 ^ 32)
