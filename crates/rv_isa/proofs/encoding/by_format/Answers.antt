use Rattle.std.proofs.Common.{rules, w32, SFits}
use Rattle.std.proofs.lemmas.Int.{to_z-of_z}
use Rattle.rv_isa.proofs.encoding.by_format.Goals as goal

pub upper-requires : goal.upper-requires
upper-requires c = rw c.in-Upper.is at c.requires

pub returns-in-Upper : goal.returns-in-Upper
returns-in-Upper c = rw c.in-Upper.is c.upper.ensures

pub jal-requires : goal.jal-requires
jal-requires c =
    let fits : SFits w32 c.in-Jal.offset = search rules in
    rw (c.in-Jal.is, ← to_z-of_z w32 c.in-Jal.offset fits) at c.requires

pub returns-in-Jal : goal.returns-in-Jal
returns-in-Jal c =
    let fits : SFits w32 c.in-Jal.offset = search rules in
    rw (c.in-Jal.is, ← to_z-of_z w32 c.in-Jal.offset fits) c.jal.ensures

pub jalr-requires : goal.jalr-requires
jalr-requires c =
    let fits : SFits w32 c.in-Jalr.offset = search rules in
    rw (c.in-Jalr.is, ← to_z-of_z w32 c.in-Jalr.offset fits) at c.requires

pub returns-in-Jalr : goal.returns-in-Jalr
returns-in-Jalr c =
    let fits : SFits w32 c.in-Jalr.offset = search rules in
    rw (c.in-Jalr.is, ← to_z-of_z w32 c.in-Jalr.offset fits) c.jalr.ensures

pub branch-op-requires : goal.branch-op-requires
branch-op-requires c =
    let fits : SFits w32 c.in-Branch.offset = search rules in
    rw (c.in-Branch.is, ← to_z-of_z w32 c.in-Branch.offset fits) at c.requires

pub returns-in-Branch : goal.returns-in-Branch
returns-in-Branch c =
    let fits : SFits w32 c.in-Branch.offset = search rules in
    rw (c.in-Branch.is, ← to_z-of_z w32 c.in-Branch.offset fits) c.branch-op.ensures

pub load-requires : goal.load-requires
load-requires c =
    let fits : SFits w32 c.in-Load.offset = search rules in
    rw (c.in-Load.is, ← to_z-of_z w32 c.in-Load.offset fits) at c.requires

pub returns-in-Load : goal.returns-in-Load
returns-in-Load c =
    let fits : SFits w32 c.in-Load.offset = search rules in
    rw (c.in-Load.is, ← to_z-of_z w32 c.in-Load.offset fits) c.load.ensures

pub store-requires : goal.store-requires
store-requires c =
    let fits : SFits w32 c.in-Store.offset = search rules in
    rw (c.in-Store.is, ← to_z-of_z w32 c.in-Store.offset fits) at c.requires

pub returns-in-Store : goal.returns-in-Store
returns-in-Store c =
    let fits : SFits w32 c.in-Store.offset = search rules in
    rw (c.in-Store.is, ← to_z-of_z w32 c.in-Store.offset fits) c.store.ensures

pub arithmetic-requires : goal.arithmetic-requires
arithmetic-requires c =
    let fits : SFits w32 c.in-Imm.imm = search rules in
    rw (c.in-Imm.is, ← to_z-of_z w32 c.in-Imm.imm fits) at c.requires

pub returns-in-Imm : goal.returns-in-Imm
returns-in-Imm c =
    let fits : SFits w32 c.in-Imm.imm = search rules in
    rw (c.in-Imm.is, ← to_z-of_z w32 c.in-Imm.imm fits) c.arithmetic.ensures

pub shift-requires : goal.shift-requires
shift-requires c = rw c.in-Shift.is at c.requires

pub returns-in-Shift : goal.returns-in-Shift
returns-in-Shift c = rw c.in-Shift.is c.shift.ensures

pub register-requires : goal.register-requires
register-requires c = rw c.in-Reg.is at c.requires

pub returns-in-Reg : goal.returns-in-Reg
returns-in-Reg c = rw c.in-Reg.is c.register.ensures

pub amo-requires : goal.amo-requires
amo-requires c = rw c.in-Amo.is at c.requires

pub returns-in-Amo : goal.returns-in-Amo
returns-in-Amo c = rw c.in-Amo.is c.amo.ensures

pub fence-requires : goal.fence-requires
fence-requires c = rw c.in-Fence.is at c.requires

pub returns-in-Fence : goal.returns-in-Fence
returns-in-Fence c = rw c.in-Fence.is c.fence.ensures
