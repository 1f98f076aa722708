-- The registers as they are described to a client. GDB's manual, appendix G, section "Target
-- Description Format"; their names are the RISC-V psABI's, in the order of their numbers.
use Rattle.std.specs.Prelude.{ℕ, List, ◌++◌, flat_map, codes}
use Rattle.gdb_packets.specs.Around.{between_marks}

-- with commas between them
abbrev pub register_names : List ℕ
register_names =
    codes "zero,ra,sp,gp,tp,t0,t1,t2,fp,s1,a0,a1,a2,a3,a4,a5,a6,a7,"
    ++ codes "s2,s3,s4,s5,s6,s7,s8,s9,s10,s11,t3,t4,t5,t6,pc"

abbrev pub register_element : (name : List ℕ) → List ℕ
register_element name = codes "<reg name=\"" ++ name ++ codes "\" bitsize=\"32\"/>"

-- Without an operating system: with one a debugger would plant breakpoints where it should step.
abbrev pub description_text : List ℕ
description_text =
    codes "<target><architecture>riscv:rv32</architecture><osabi>none</osabi>"
    ++ codes "<feature name=\"org.gnu.gdb.riscv.cpu\">"
    ++ flat_map register_element (between_marks 44 register_names)
    ++ codes "</feature></target>"
