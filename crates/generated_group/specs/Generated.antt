-- The image that is made from a number: a program for 1 to 32 threads, listed instruction by
-- instruction. This project's own.
use Rattle.std.specs.Prelude.{ℕ, ◌+◌, ◌*◌, ◌/◌, ◌%◌, ◌^◌, ◌-ℤ◌, ℤ, pos, negsuc, true, false, List}
use Rattle.std.specs.Prelude.{[], ◌∷◌, ◌++◌, map}
use Rattle.rv_isa.specs.Encoding.{encoding}
use Rattle.rv_isa.specs.Fields.{sign_extended}
use Rattle.rv_isa.specs.declared.Instr.{Instr}
use Rattle.rv_isa.specs.declared.Instr.TheVariants.{Upper, Jal, Branch, Load, Store, Imm, Shift}
use Rattle.rv_isa.specs.declared.Instr.TheVariants.{Reg, Ecall}
use Rattle.rv_isa.specs.declared.BranchOp.TheVariants.{Beq, Bne}
use Rattle.rv_isa.specs.declared.ImmOp.TheVariants.{Addi, Andi}
use Rattle.rv_isa.specs.declared.LoadOp.TheVariants.{Lw}
use Rattle.rv_isa.specs.declared.RegOp.TheVariants.{Add, Mul}
use Rattle.rv_isa.specs.declared.ShiftOp.TheVariants.{Slli, Srli}
use Rattle.rv_isa.specs.declared.StoreOp.TheVariants.{Sw}
use Rattle.rv_asm.specs.File.{code_of}
use Rattle.elf_image.specs.Image.{Image}
use Rattle.elf_image.specs.declared.part.Part.{Part}

-- ---- instructions as an assembler writes them: the register that is written comes first, and
-- registers go by number

abbrev pub addi : (rd rs1 : ℕ) → ℤ → Instr
addi rd rs1 imm = Imm Addi rd rs1 imm

abbrev pub andi : (rd rs1 : ℕ) → ℤ → Instr
andi rd rs1 imm = Imm Andi rd rs1 imm

abbrev pub slli : (rd rs1 amount : ℕ) → Instr
slli rd rs1 amount = Shift Slli rd rs1 amount

abbrev pub srli : (rd rs1 amount : ℕ) → Instr
srli rd rs1 amount = Shift Srli rd rs1 amount

abbrev pub add : (rd rs1 rs2 : ℕ) → Instr
add rd rs1 rs2 = Reg Add rd rs1 rs2

abbrev pub mul : (rd rs1 rs2 : ℕ) → Instr
mul rd rs1 rs2 = Reg Mul rd rs1 rs2

-- lui and auipc are given the upper 20 bits
abbrev pub lui : (rd upper : ℕ) → Instr
lui rd upper = Upper false rd (upper * 2 ^ 12)

abbrev pub auipc : (rd upper : ℕ) → Instr
auipc rd upper = Upper true rd (upper * 2 ^ 12)

-- of the word at an address in a register
abbrev pub lw : (rd address : ℕ) → Instr
lw rd address = Load Lw rd address (pos 0)

abbrev pub sw : (value address : ℕ) → Instr
sw value address = Store Sw address value (pos 0)

-- A branch and a jump go from the address where they stand to another.
abbrev pub distance : (here there : ℕ) → ℤ
distance here there = pos there -ℤ pos here

abbrev pub beq : (rs1 rs2 here there : ℕ) → Instr
beq rs1 rs2 here there = Branch Beq rs1 rs2 (distance here there)

abbrev pub bne : (rs1 rs2 here there : ℕ) → Instr
bne rs1 rs2 here there = Branch Bne rs1 rs2 (distance here there)

abbrev pub jump : (here there : ℕ) → Instr
jump here there = Jal 0 (distance here there)

-- Two instructions put a number of 32 bits into a register: the low 12 bits are added as a signed
-- number, so the upper 20 bits are rounded.
abbrev pub upper : ℕ → ℕ
upper n = (n + 0x800) / 2 ^ 12 % 2 ^ 20

abbrev pub lower : ℕ → ℤ
lower n = sign_extended 12 (n % 2 ^ 12)

abbrev pub li : (rd n : ℕ) → List Instr
li rd n = lui rd (upper n) ∷ addi rd rd (lower n) ∷ []

-- ---- the program, with the addresses counted from its beginning

abbrev pub next : ℕ
next = 0x04

abbrev pub first : ℕ
first = 0x28

abbrev pub body : ℕ
body = 0x60

abbrev pub skip : ℕ
skip = 0x94

-- The first thread makes the others with service 3: each begins at 0x2C, on no stack, with its
-- index in x10, from 1 on. Its own index is 0.
abbrev pub start_threads : ℕ → List Instr
start_threads threads =
    addi 9 0 (pos 1)  -- 00
    ∷ addi 5 0 (pos threads)  -- 04, next
    ∷ beq 9 5 0x08 first  -- 08
    ∷ addi 17 0 (pos 3)  -- 0C
    ∷ auipc 10 0  -- 10
    ∷ addi 10 10 (pos 28)  -- 14
    ∷ addi 12 9 (pos 0)  -- 18
    ∷ Ecall  -- 1C
    ∷ addi 9 9 (pos 1)  -- 20
    ∷ jump 0x24 next  -- 24
    ∷ []

-- The shared page is in x8, the thread's own page in x19, its number in x20, the multiplier in x22,
-- the increment in x23 and the turns that are left in x21.
abbrev pub set_up : ℕ → List Instr
set_up number =
    (addi 10 0 (pos 0)  -- 28, first
    ∷ addi 18 10 (pos 0)  -- 2C
    ∷ lui 8 0x20  -- 30
    ∷ lui 19 0x21  -- 34
    ∷ slli 5 18 12  -- 38
    ∷ add 19 19 5  -- 3C
    ∷ [])
    ++ li 20 number  -- 40
    ++ (add 20 20 18 ∷ [])  -- 48
    ++ li 22 1664525  -- 4C
    ++ li 23 1013904223  -- 54
    ++ (addi 21 0 (pos 1000) ∷ [])  -- 5C

-- A turn takes the next number and adds it to a word of the own page, which its upper bits choose;
-- each 64th turn adds it to the first word of the shared page too.
abbrev pub work : List Instr
work = mul 20 20 22  -- 60, body
    ∷ add 20 20 23  -- 64
    ∷ srli 5 20 20  -- 68
    ∷ andi 5 5 (negsuc 3)  -- 6C, by -4
    ∷ add 5 5 19  -- 70
    ∷ lw 6 5  -- 74
    ∷ add 6 6 20  -- 78
    ∷ sw 6 5  -- 7C
    ∷ andi 6 21 (pos 63)  -- 80
    ∷ bne 6 0 0x84 skip  -- 84
    ∷ lw 6 8  -- 88
    ∷ add 6 6 20  -- 8C
    ∷ sw 6 8  -- 90
    ∷ addi 21 21 (negsuc 0)  -- 94, skip; by -1
    ∷ bne 21 0 0x98 body  -- 98
    ∷ []

-- At last the thread writes its page and the shared word to output with service 8, and ends with
-- service 1.
abbrev pub print : List Instr
print = addi 17 0 (pos 8)  -- 9C
    ∷ addi 10 0 (pos 1)  -- A0
    ∷ addi 11 19 (pos 0)  -- A4
    ∷ lui 12 1  -- A8
    ∷ Ecall  -- AC
    ∷ addi 10 0 (pos 1)  -- B0
    ∷ addi 11 8 (pos 0)  -- B4
    ∷ addi 12 0 (pos 4)  -- B8
    ∷ Ecall  -- BC
    ∷ addi 17 0 (pos 1)  -- C0
    ∷ Ecall  -- C4
    ∷ []

abbrev pub program : (number threads : ℕ) → List Instr
program number threads = start_threads threads ++ set_up number ++ work ++ print

-- ---- the image

-- it may be executed, and not written
abbrev pub program_part : (number threads : ℕ) → Part
program_part number threads = record {
  address = 0x10000;
  bytes = code_of (map encoding (program number threads));
  zeros = 0;
  write = false;
  exec = true;
  index = 0;
}

-- the shared page, and then the pages of the threads in the order of their indexes
abbrev pub pages_part : ℕ → Part
pages_part threads = record {
  address = 0x20000;
  bytes = [];
  zeros = 4096 * (threads + 1);
  write = true;
  exec = false;
  index = 1;
}

unfoldable pub generated : (number threads : ℕ) → Image
generated number threads = record {
  entry = 0x10000;
  parts = program_part number threads ∷ pages_part threads ∷ [];
}
