use Rattle.std.proofs.Common.{rules, w32, SFits}
use Rattle.std.proofs.lemmas.Int.{to_z-of_z}
use Rattle.rv_isa.proofs.Instr.is_valid.Goals as goal

pub returns-in-Upper : goal.returns-in-Upper
returns-in-Upper c = rw c.in-Upper.is c.fits_upper.ensures

pub returns-in-Jal : goal.returns-in-Jal
returns-in-Jal c =
    let fits : SFits w32 c.in-Jal.offset = search rules in
    rw (c.in-Jal.is, ← to_z-of_z w32 c.in-Jal.offset fits) c.fits_jump.ensures

pub returns-in-Jalr : goal.returns-in-Jalr
returns-in-Jalr c =
    let fits : SFits w32 c.in-Jalr.offset = search rules in
    rw (c.in-Jalr.is, ← to_z-of_z w32 c.in-Jalr.offset fits) c.fits_immediate.ensures

pub returns-in-Branch : goal.returns-in-Branch
returns-in-Branch c =
    let fits : SFits w32 c.in-Branch.offset = search rules in
    rw (c.in-Branch.is, ← to_z-of_z w32 c.in-Branch.offset fits) c.fits_branch.ensures

pub returns-in-Load : goal.returns-in-Load
returns-in-Load c =
    let fits : SFits w32 c.in-Load.offset = search rules in
    rw (c.in-Load.is, ← to_z-of_z w32 c.in-Load.offset fits) c.fits_immediate-in-Load.ensures

pub returns-in-Store : goal.returns-in-Store
returns-in-Store c =
    let fits : SFits w32 c.in-Store.offset = search rules in
    rw (c.in-Store.is, ← to_z-of_z w32 c.in-Store.offset fits) c.fits_immediate-in-Store.ensures

pub returns-in-Imm : goal.returns-in-Imm
returns-in-Imm c =
    let fits : SFits w32 c.in-Imm.imm = search rules in
    rw (c.in-Imm.is, ← to_z-of_z w32 c.in-Imm.imm fits) c.fits_immediate-in-Imm.ensures

pub returns-in-Shift : goal.returns-in-Shift
returns-in-Shift c = rw c.in-Shift.is c.fits_registers.ensures

pub returns-in-Reg : goal.returns-in-Reg
returns-in-Reg c = rw c.in-Reg.is c.fits_registers-in-Reg.ensures

pub returns-in-Amo : goal.returns-in-Amo
returns-in-Amo c = rw c.in-Amo.is c.fits_atomic.ensures

pub returns-in-Fence : goal.returns-in-Fence
returns-in-Fence c = rw c.in-Fence.is c.fits_fence.ensures
