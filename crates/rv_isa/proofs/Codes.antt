-- Each operation's funct3 has three bits, its funct5 five and its funct7 seven.
use Rattle.std.proofs.Common.{◌<◌, Bool, true, false, lit<}
use Rattle.std.specs.Prelude.{if◌then◌else◌}
use Rattle.rv_isa.specs.declared.BranchOp.{BranchOp}
use Rattle.rv_isa.specs.declared.BranchOp.TheVariants.{Beq, Bne, Blt, Bge, Bltu, Bgeu}
use Rattle.rv_isa.specs.declared.LoadOp.{LoadOp}
use Rattle.rv_isa.specs.declared.LoadOp.TheVariants.{Lb, Lh, Lw, Lbu, Lhu}
use Rattle.rv_isa.specs.declared.StoreOp.{StoreOp}
use Rattle.rv_isa.specs.declared.StoreOp.TheVariants.{Sb, Sh, Sw}
use Rattle.rv_isa.specs.declared.ImmOp.{ImmOp}
use Rattle.rv_isa.specs.declared.ImmOp.TheVariants.{Addi, Slti, Sltiu, Xori, Ori, Andi}
use Rattle.rv_isa.specs.declared.ShiftOp.{ShiftOp}
use Rattle.rv_isa.specs.declared.ShiftOp.TheVariants.{Slli, Srli, Srai}
use Rattle.rv_isa.specs.declared.RegOp.{RegOp}
use Rattle.rv_isa.specs.declared.RegOp.TheVariants.{Add, Sub, Sll, Slt, Sltu, Xor, Srl, Sra, Or}
use Rattle.rv_isa.specs.declared.RegOp.TheVariants.{And, Mul, Mulh, Mulhsu, Mulhu, Div, Divu, Rem}
use Rattle.rv_isa.specs.declared.RegOp.TheVariants.{Remu}
use Rattle.rv_isa.specs.declared.AmoOp.{AmoOp}
use Rattle.rv_isa.specs.declared.AmoOp.TheVariants.{LrW, ScW, AmoswapW, AmoaddW, AmoxorW, AmoandW}
use Rattle.rv_isa.specs.declared.AmoOp.TheVariants.{AmoorW, AmominW, AmomaxW, AmominuW, AmomaxuW}
use Rattle.rv_isa.specs.Encoding.{branch_funct3, load_funct3, store_funct3, imm_funct3}
use Rattle.rv_isa.specs.Encoding.{shift_funct3, shift_funct7, reg_funct3, reg_funct7, amo_funct5}
use Rattle.rv_isa.specs.Encoding.{one_if}

pub branch_below : (op : BranchOp) → branch_funct3 op < 8
branch_below Beq = lit< tt
branch_below Bne = lit< tt
branch_below Blt = lit< tt
branch_below Bge = lit< tt
branch_below Bltu = lit< tt
branch_below Bgeu = lit< tt

pub load_below : (op : LoadOp) → load_funct3 op < 8
load_below Lb = lit< tt
load_below Lh = lit< tt
load_below Lw = lit< tt
load_below Lbu = lit< tt
load_below Lhu = lit< tt

pub store_below : (op : StoreOp) → store_funct3 op < 8
store_below Sb = lit< tt
store_below Sh = lit< tt
store_below Sw = lit< tt

pub imm_below : (op : ImmOp) → imm_funct3 op < 8
imm_below Addi = lit< tt
imm_below Slti = lit< tt
imm_below Sltiu = lit< tt
imm_below Xori = lit< tt
imm_below Ori = lit< tt
imm_below Andi = lit< tt

pub shift_below : (op : ShiftOp) → shift_funct3 op < 8
shift_below Slli = lit< tt
shift_below Srli = lit< tt
shift_below Srai = lit< tt

pub reg_below : (op : RegOp) → reg_funct3 op < 8
reg_below Add = lit< tt
reg_below Sub = lit< tt
reg_below Sll = lit< tt
reg_below Slt = lit< tt
reg_below Sltu = lit< tt
reg_below Xor = lit< tt
reg_below Srl = lit< tt
reg_below Sra = lit< tt
reg_below Or = lit< tt
reg_below And = lit< tt
reg_below Mul = lit< tt
reg_below Mulh = lit< tt
reg_below Mulhsu = lit< tt
reg_below Mulhu = lit< tt
reg_below Div = lit< tt
reg_below Divu = lit< tt
reg_below Rem = lit< tt
reg_below Remu = lit< tt

pub shift7_below : (op : ShiftOp) → shift_funct7 op < 128
shift7_below Slli = lit< tt
shift7_below Srli = lit< tt
shift7_below Srai = lit< tt

pub reg7_below : (op : RegOp) → reg_funct7 op < 128
reg7_below Add = lit< tt
reg7_below Sub = lit< tt
reg7_below Sll = lit< tt
reg7_below Slt = lit< tt
reg7_below Sltu = lit< tt
reg7_below Xor = lit< tt
reg7_below Srl = lit< tt
reg7_below Sra = lit< tt
reg7_below Or = lit< tt
reg7_below And = lit< tt
reg7_below Mul = lit< tt
reg7_below Mulh = lit< tt
reg7_below Mulhsu = lit< tt
reg7_below Mulhu = lit< tt
reg7_below Div = lit< tt
reg7_below Divu = lit< tt
reg7_below Rem = lit< tt
reg7_below Remu = lit< tt

pub amo_below : (op : AmoOp) → amo_funct5 op < 32
amo_below LrW = lit< tt
amo_below ScW = lit< tt
amo_below AmoswapW = lit< tt
amo_below AmoaddW = lit< tt
amo_below AmoxorW = lit< tt
amo_below AmoandW = lit< tt
amo_below AmoorW = lit< tt
amo_below AmominW = lit< tt
amo_below AmomaxW = lit< tt
amo_below AmominuW = lit< tt
amo_below AmomaxuW = lit< tt

pub one_below : (op : Bool) → one_if op < 8
one_below true = lit< tt
one_below false = lit< tt

pub bit_below : (b : Bool) → one_if b < 2
bit_below true = lit< tt
bit_below false = lit< tt

pub upper_below : (auipc : Bool) → (if auipc then 0x17 else 0x37) < 128
upper_below true = lit< tt
upper_below false = lit< tt
