use Rattle.quantum_run.specs.Showing.{beside_name}
use Rattle.std.specs.Borrow.{GName}
use Rattle.std.proofs.Common.{ℕ, List, Option, refl, true, false}
use Rattle.dos_world.specs.declared.Reason.TheVariants.{Service}
use Rattle.rv_isa.specs.declared.Instr.TheVariants.{Fence, Imm, Load, Reg, Shift, Store, Upper}
use Rattle.rv_isa.specs.declared.ImmOp.TheVariants as imms
use Rattle.rv_isa.specs.declared.LoadOp.TheVariants as loads
use Rattle.rv_isa.specs.declared.RegOp.TheVariants as regs
use Rattle.rv_isa.specs.declared.ShiftOp.TheVariants as shifts
use Rattle.rv_isa.specs.declared.StoreOp.TheVariants as stores
use Rattle.rv_form.specs.Forms.{instr_of}
use Rattle.rv_form.specs.declared.form.Op.TheVariants as op
use Rattle.flat_machine.specs.Effect.{effect, unsigned}
use Rattle.rv_exec.specs.declared.next.Next.TheVariants.{On}
use Rattle.quantum_run.specs.Answering.{Still, still}
use Rattle.quantum_run.specs.Showing.{ShowsKnown, answers_of}
use Rattle.quantum_run.specs.declared.thread_memory.Running.{Running}
use Rattle.quantum_run.proofs.Flying.{by-op, by-registers}
use Rattle.quantum_run.proofs.lines.other.Given as given
use Rattle.quantum_run.proofs.lines.other.Goals as goal

-- what a memory shows
abbrev shown : (g : given.Over) → Running g.row.P.Denot g.P.Pages
    → (Still × (g.P.Pages.Fixed × GName)) × List (Option (List ℕ)) → g.P.Pages.State → Type 0
shown g m = ShowsKnown (still m.tid (g.P.Pages.owners m.pages) m.space.now.entries)
    (g.P.Pages.fixed m.pages, m.compared.ghost_name) (g.P.Pages.state m.pages)
    (g.P.Pages.pages m.pages) m.compared.now.slots m.compared.now.blocks

pub returns-in-Lui-clause-done : goal.returns-in-Lui-clause-done
unfolding instr_of
returns-in-Lui-clause-done g c =
    by-registers (answers_of (beside_name g.P.Pages.places)) (shown g c.args.memory.now)
    c.args.form.now op.Lui c.in-Lui.is (Upper false c.args.form.now.rd
    (unsigned c.args.form.now.imm)) 4 refl c.args.pc c.args.regs.now c.lui.new.regs c.lui.result
    (λ size. c.lui.ensures size c.args.pc Service)

pub returns-in-ShortLui-clause-done : goal.returns-in-ShortLui-clause-done
unfolding instr_of
returns-in-ShortLui-clause-done g c =
    by-registers (answers_of (beside_name g.P.Pages.places)) (shown g c.args.memory.now)
    c.args.form.now op.ShortLui c.in-ShortLui.is (Upper false c.args.form.now.rd
    (unsigned c.args.form.now.imm)) 2 refl c.args.pc c.args.regs.now c.lui-in-ShortLui.new.regs
    c.lui-in-ShortLui.result (λ size. c.lui-in-ShortLui.ensures size c.args.pc Service)

pub returns-in-Auipc-clause-done : goal.returns-in-Auipc-clause-done
unfolding instr_of
returns-in-Auipc-clause-done g c =
    by-registers (answers_of (beside_name g.P.Pages.places)) (shown g c.args.memory.now)
    c.args.form.now op.Auipc c.in-Auipc.is (Upper true c.args.form.now.rd
    (unsigned c.args.form.now.imm)) 4 refl c.args.pc c.args.regs.now c.auipc.new.regs c.auipc.result
    (λ size. c.auipc.ensures size Service)

pub returns-in-Addi-clause-done : goal.returns-in-Addi-clause-done
unfolding instr_of
returns-in-Addi-clause-done g c =
    by-registers (answers_of (beside_name g.P.Pages.places)) (shown g c.args.memory.now)
    c.args.form.now op.Addi c.in-Addi.is (Imm imms.Addi c.args.form.now.rd c.args.form.now.rs1
    c.args.form.now.imm) 4 refl c.args.pc c.args.regs.now c.immediate.new.regs
    c.immediate.result (λ size. c.immediate.ensures size c.args.pc Service)

pub returns-in-ShortAddi-clause-done : goal.returns-in-ShortAddi-clause-done
unfolding instr_of
returns-in-ShortAddi-clause-done g c =
    by-registers (answers_of (beside_name g.P.Pages.places)) (shown g c.args.memory.now)
    c.args.form.now op.ShortAddi c.in-ShortAddi.is (Imm imms.Addi c.args.form.now.rd
    c.args.form.now.rs1 c.args.form.now.imm) 2 refl c.args.pc c.args.regs.now
    c.immediate-in-ShortAddi.new.regs c.immediate-in-ShortAddi.result
    (λ size. c.immediate-in-ShortAddi.ensures size c.args.pc Service)

pub returns-in-Slti-clause-done : goal.returns-in-Slti-clause-done
unfolding instr_of
returns-in-Slti-clause-done g c =
    by-registers (answers_of (beside_name g.P.Pages.places)) (shown g c.args.memory.now)
    c.args.form.now op.Slti c.in-Slti.is (Imm imms.Slti c.args.form.now.rd c.args.form.now.rs1
    c.args.form.now.imm) 4 refl c.args.pc c.args.regs.now c.immediate-in-Slti.new.regs
    c.immediate-in-Slti.result (λ size. c.immediate-in-Slti.ensures size c.args.pc Service)

pub returns-in-Sltiu-clause-done : goal.returns-in-Sltiu-clause-done
unfolding instr_of
returns-in-Sltiu-clause-done g c =
    by-registers (answers_of (beside_name g.P.Pages.places)) (shown g c.args.memory.now)
    c.args.form.now op.Sltiu c.in-Sltiu.is (Imm imms.Sltiu c.args.form.now.rd c.args.form.now.rs1
    c.args.form.now.imm) 4 refl c.args.pc c.args.regs.now c.immediate-in-Sltiu.new.regs
    c.immediate-in-Sltiu.result (λ size. c.immediate-in-Sltiu.ensures size c.args.pc Service)

pub returns-in-Xori-clause-done : goal.returns-in-Xori-clause-done
unfolding instr_of
returns-in-Xori-clause-done g c =
    by-registers (answers_of (beside_name g.P.Pages.places)) (shown g c.args.memory.now)
    c.args.form.now op.Xori c.in-Xori.is (Imm imms.Xori c.args.form.now.rd c.args.form.now.rs1
    c.args.form.now.imm) 4 refl c.args.pc c.args.regs.now c.immediate-in-Xori.new.regs
    c.immediate-in-Xori.result (λ size. c.immediate-in-Xori.ensures size c.args.pc Service)

pub returns-in-Ori-clause-done : goal.returns-in-Ori-clause-done
unfolding instr_of
returns-in-Ori-clause-done g c =
    by-registers (answers_of (beside_name g.P.Pages.places)) (shown g c.args.memory.now)
    c.args.form.now op.Ori c.in-Ori.is (Imm imms.Ori c.args.form.now.rd c.args.form.now.rs1
    c.args.form.now.imm) 4 refl c.args.pc c.args.regs.now c.immediate-in-Ori.new.regs
    c.immediate-in-Ori.result (λ size. c.immediate-in-Ori.ensures size c.args.pc Service)

pub returns-in-Andi-clause-done : goal.returns-in-Andi-clause-done
unfolding instr_of
returns-in-Andi-clause-done g c =
    by-registers (answers_of (beside_name g.P.Pages.places)) (shown g c.args.memory.now)
    c.args.form.now op.Andi c.in-Andi.is (Imm imms.Andi c.args.form.now.rd c.args.form.now.rs1
    c.args.form.now.imm) 4 refl c.args.pc c.args.regs.now c.immediate-in-Andi.new.regs
    c.immediate-in-Andi.result (λ size. c.immediate-in-Andi.ensures size c.args.pc Service)

pub returns-in-ShortAndi-clause-done : goal.returns-in-ShortAndi-clause-done
unfolding instr_of
returns-in-ShortAndi-clause-done g c =
    by-registers (answers_of (beside_name g.P.Pages.places)) (shown g c.args.memory.now)
    c.args.form.now op.ShortAndi c.in-ShortAndi.is (Imm imms.Andi c.args.form.now.rd
    c.args.form.now.rs1 c.args.form.now.imm) 2 refl c.args.pc c.args.regs.now
    c.immediate-in-ShortAndi.new.regs c.immediate-in-ShortAndi.result
    (λ size. c.immediate-in-ShortAndi.ensures size c.args.pc Service)

pub returns-in-Srai-clause-done : goal.returns-in-Srai-clause-done
unfolding instr_of
returns-in-Srai-clause-done g c =
    by-registers (answers_of (beside_name g.P.Pages.places)) (shown g c.args.memory.now)
    c.args.form.now op.Srai c.in-Srai.is (Shift shifts.Srai c.args.form.now.rd c.args.form.now.rs1
    c.args.form.now.rs2) 4 refl c.args.pc c.args.regs.now c.shift.new.regs c.shift.result
    (λ size. c.shift.ensures size c.args.pc Service)

pub returns-in-ShortSrai-clause-done : goal.returns-in-ShortSrai-clause-done
unfolding instr_of
returns-in-ShortSrai-clause-done g c =
    by-registers (answers_of (beside_name g.P.Pages.places)) (shown g c.args.memory.now)
    c.args.form.now op.ShortSrai c.in-ShortSrai.is (Shift shifts.Srai c.args.form.now.rd
    c.args.form.now.rs1 c.args.form.now.rs2) 2 refl c.args.pc c.args.regs.now
    c.shift-in-ShortSrai.new.regs c.shift-in-ShortSrai.result
    (λ size. c.shift-in-ShortSrai.ensures size c.args.pc Service)

pub returns-in-Sub-clause-done : goal.returns-in-Sub-clause-done
unfolding instr_of
returns-in-Sub-clause-done g c =
    by-registers (answers_of (beside_name g.P.Pages.places)) (shown g c.args.memory.now)
    c.args.form.now op.Sub c.in-Sub.is (Reg regs.Sub c.args.form.now.rd c.args.form.now.rs1
    c.args.form.now.rs2) 4 refl c.args.pc c.args.regs.now c.register.new.regs c.register.result
    (λ size. c.register.ensures size c.args.pc Service)

pub returns-in-ShortSub-clause-done : goal.returns-in-ShortSub-clause-done
unfolding instr_of
returns-in-ShortSub-clause-done g c =
    by-registers (answers_of (beside_name g.P.Pages.places)) (shown g c.args.memory.now)
    c.args.form.now op.ShortSub c.in-ShortSub.is (Reg regs.Sub c.args.form.now.rd
    c.args.form.now.rs1 c.args.form.now.rs2) 2 refl c.args.pc c.args.regs.now
    c.register-in-ShortSub.new.regs c.register-in-ShortSub.result
    (λ size. c.register-in-ShortSub.ensures size c.args.pc Service)

pub returns-in-Sll-clause-done : goal.returns-in-Sll-clause-done
unfolding instr_of
returns-in-Sll-clause-done g c =
    by-registers (answers_of (beside_name g.P.Pages.places)) (shown g c.args.memory.now)
    c.args.form.now op.Sll c.in-Sll.is (Reg regs.Sll c.args.form.now.rd c.args.form.now.rs1
    c.args.form.now.rs2) 4 refl c.args.pc c.args.regs.now c.register-in-Sll.new.regs
    c.register-in-Sll.result (λ size. c.register-in-Sll.ensures size c.args.pc Service)

pub returns-in-Slt-clause-done : goal.returns-in-Slt-clause-done
unfolding instr_of
returns-in-Slt-clause-done g c =
    by-registers (answers_of (beside_name g.P.Pages.places)) (shown g c.args.memory.now)
    c.args.form.now op.Slt c.in-Slt.is (Reg regs.Slt c.args.form.now.rd c.args.form.now.rs1
    c.args.form.now.rs2) 4 refl c.args.pc c.args.regs.now c.register-in-Slt.new.regs
    c.register-in-Slt.result (λ size. c.register-in-Slt.ensures size c.args.pc Service)

pub returns-in-Sltu-clause-done : goal.returns-in-Sltu-clause-done
unfolding instr_of
returns-in-Sltu-clause-done g c =
    by-registers (answers_of (beside_name g.P.Pages.places)) (shown g c.args.memory.now)
    c.args.form.now op.Sltu c.in-Sltu.is (Reg regs.Sltu c.args.form.now.rd c.args.form.now.rs1
    c.args.form.now.rs2) 4 refl c.args.pc c.args.regs.now c.register-in-Sltu.new.regs
    c.register-in-Sltu.result (λ size. c.register-in-Sltu.ensures size c.args.pc Service)

pub returns-in-Srl-clause-done : goal.returns-in-Srl-clause-done
unfolding instr_of
returns-in-Srl-clause-done g c =
    by-registers (answers_of (beside_name g.P.Pages.places)) (shown g c.args.memory.now)
    c.args.form.now op.Srl c.in-Srl.is (Reg regs.Srl c.args.form.now.rd c.args.form.now.rs1
    c.args.form.now.rs2) 4 refl c.args.pc c.args.regs.now c.register-in-Srl.new.regs
    c.register-in-Srl.result (λ size. c.register-in-Srl.ensures size c.args.pc Service)

pub returns-in-Sra-clause-done : goal.returns-in-Sra-clause-done
unfolding instr_of
returns-in-Sra-clause-done g c =
    by-registers (answers_of (beside_name g.P.Pages.places)) (shown g c.args.memory.now)
    c.args.form.now op.Sra c.in-Sra.is (Reg regs.Sra c.args.form.now.rd c.args.form.now.rs1
    c.args.form.now.rs2) 4 refl c.args.pc c.args.regs.now c.register-in-Sra.new.regs
    c.register-in-Sra.result (λ size. c.register-in-Sra.ensures size c.args.pc Service)

pub returns-in-Or-clause-done : goal.returns-in-Or-clause-done
unfolding instr_of
returns-in-Or-clause-done g c =
    by-registers (answers_of (beside_name g.P.Pages.places)) (shown g c.args.memory.now)
    c.args.form.now op.Or c.in-Or.is (Reg regs.Or c.args.form.now.rd c.args.form.now.rs1
    c.args.form.now.rs2) 4 refl c.args.pc c.args.regs.now c.register-in-Or.new.regs
    c.register-in-Or.result (λ size. c.register-in-Or.ensures size c.args.pc Service)

pub returns-in-ShortOr-clause-done : goal.returns-in-ShortOr-clause-done
unfolding instr_of
returns-in-ShortOr-clause-done g c =
    by-registers (answers_of (beside_name g.P.Pages.places)) (shown g c.args.memory.now)
    c.args.form.now op.ShortOr c.in-ShortOr.is (Reg regs.Or c.args.form.now.rd c.args.form.now.rs1
    c.args.form.now.rs2) 2 refl c.args.pc c.args.regs.now c.register-in-ShortOr.new.regs
    c.register-in-ShortOr.result (λ size. c.register-in-ShortOr.ensures size c.args.pc Service)

pub returns-in-Mul-clause-done : goal.returns-in-Mul-clause-done
unfolding instr_of
returns-in-Mul-clause-done g c =
    by-registers (answers_of (beside_name g.P.Pages.places)) (shown g c.args.memory.now)
    c.args.form.now op.Mul c.in-Mul.is (Reg regs.Mul c.args.form.now.rd c.args.form.now.rs1
    c.args.form.now.rs2) 4 refl c.args.pc c.args.regs.now c.register-in-Mul.new.regs
    c.register-in-Mul.result (λ size. c.register-in-Mul.ensures size c.args.pc Service)

pub returns-in-Mulh-clause-done : goal.returns-in-Mulh-clause-done
unfolding instr_of
returns-in-Mulh-clause-done g c =
    by-registers (answers_of (beside_name g.P.Pages.places)) (shown g c.args.memory.now)
    c.args.form.now op.Mulh c.in-Mulh.is (Reg regs.Mulh c.args.form.now.rd c.args.form.now.rs1
    c.args.form.now.rs2) 4 refl c.args.pc c.args.regs.now c.register-in-Mulh.new.regs
    c.register-in-Mulh.result (λ size. c.register-in-Mulh.ensures size c.args.pc Service)

pub returns-in-Mulhsu-clause-done : goal.returns-in-Mulhsu-clause-done
unfolding instr_of
returns-in-Mulhsu-clause-done g c =
    by-registers (answers_of (beside_name g.P.Pages.places)) (shown g c.args.memory.now)
    c.args.form.now op.Mulhsu c.in-Mulhsu.is (Reg regs.Mulhsu c.args.form.now.rd c.args.form.now.rs1
    c.args.form.now.rs2) 4 refl c.args.pc c.args.regs.now c.register-in-Mulhsu.new.regs
    c.register-in-Mulhsu.result (λ size. c.register-in-Mulhsu.ensures size c.args.pc Service)

pub returns-in-Mulhu-clause-done : goal.returns-in-Mulhu-clause-done
unfolding instr_of
returns-in-Mulhu-clause-done g c =
    by-registers (answers_of (beside_name g.P.Pages.places)) (shown g c.args.memory.now)
    c.args.form.now op.Mulhu c.in-Mulhu.is (Reg regs.Mulhu c.args.form.now.rd c.args.form.now.rs1
    c.args.form.now.rs2) 4 refl c.args.pc c.args.regs.now c.register-in-Mulhu.new.regs
    c.register-in-Mulhu.result (λ size. c.register-in-Mulhu.ensures size c.args.pc Service)

pub returns-in-Div-clause-done : goal.returns-in-Div-clause-done
unfolding instr_of
returns-in-Div-clause-done g c =
    by-registers (answers_of (beside_name g.P.Pages.places)) (shown g c.args.memory.now)
    c.args.form.now op.Div c.in-Div.is (Reg regs.Div c.args.form.now.rd c.args.form.now.rs1
    c.args.form.now.rs2) 4 refl c.args.pc c.args.regs.now c.register-in-Div.new.regs
    c.register-in-Div.result (λ size. c.register-in-Div.ensures size c.args.pc Service)

pub returns-in-Divu-clause-done : goal.returns-in-Divu-clause-done
unfolding instr_of
returns-in-Divu-clause-done g c =
    by-registers (answers_of (beside_name g.P.Pages.places)) (shown g c.args.memory.now)
    c.args.form.now op.Divu c.in-Divu.is (Reg regs.Divu c.args.form.now.rd c.args.form.now.rs1
    c.args.form.now.rs2) 4 refl c.args.pc c.args.regs.now c.register-in-Divu.new.regs
    c.register-in-Divu.result (λ size. c.register-in-Divu.ensures size c.args.pc Service)

pub returns-in-Rem-clause-done : goal.returns-in-Rem-clause-done
unfolding instr_of
returns-in-Rem-clause-done g c =
    by-registers (answers_of (beside_name g.P.Pages.places)) (shown g c.args.memory.now)
    c.args.form.now op.Rem c.in-Rem.is (Reg regs.Rem c.args.form.now.rd c.args.form.now.rs1
    c.args.form.now.rs2) 4 refl c.args.pc c.args.regs.now c.register-in-Rem.new.regs
    c.register-in-Rem.result (λ size. c.register-in-Rem.ensures size c.args.pc Service)

pub returns-in-Remu-clause-done : goal.returns-in-Remu-clause-done
unfolding instr_of
returns-in-Remu-clause-done g c =
    by-registers (answers_of (beside_name g.P.Pages.places)) (shown g c.args.memory.now)
    c.args.form.now op.Remu c.in-Remu.is (Reg regs.Remu c.args.form.now.rd c.args.form.now.rs1
    c.args.form.now.rs2) 4 refl c.args.pc c.args.regs.now c.register-in-Remu.new.regs
    c.register-in-Remu.result (λ size. c.register-in-Remu.ensures size c.args.pc Service)

pub returns-in-Lb-clause-done : goal.returns-in-Lb-clause-done
unfolding instr_of
returns-in-Lb-clause-done g c =
    by-op (answers_of (beside_name g.P.Pages.places)) (shown g c.args.memory.now)
    (shown g c.args.memory.now) c.args.form.now op.Lb c.in-Lb.is
    (Load loads.Lb c.args.form.now.rd c.args.form.now.rs1 c.args.form.now.imm) 4 refl
    c.args.pc c.args.regs.now c.load_quickly.new.regs c.load_quickly.result
    (λ size. c.load_quickly.ensures size c.args.pc)

pub returns-in-Lh-clause-done : goal.returns-in-Lh-clause-done
unfolding instr_of
returns-in-Lh-clause-done g c =
    by-op (answers_of (beside_name g.P.Pages.places)) (shown g c.args.memory.now)
    (shown g c.args.memory.now) c.args.form.now op.Lh c.in-Lh.is
    (Load loads.Lh c.args.form.now.rd c.args.form.now.rs1 c.args.form.now.imm) 4 refl
    c.args.pc c.args.regs.now c.load_quickly-in-Lh.new.regs c.load_quickly-in-Lh.result
    (λ size. c.load_quickly-in-Lh.ensures size c.args.pc)

pub returns-in-Lhu-clause-done : goal.returns-in-Lhu-clause-done
unfolding instr_of
returns-in-Lhu-clause-done g c =
    by-op (answers_of (beside_name g.P.Pages.places)) (shown g c.args.memory.now)
    (shown g c.args.memory.now) c.args.form.now op.Lhu c.in-Lhu.is
    (Load loads.Lhu c.args.form.now.rd c.args.form.now.rs1 c.args.form.now.imm) 4 refl
    c.args.pc c.args.regs.now c.load_quickly-in-Lhu.new.regs c.load_quickly-in-Lhu.result
    (λ size. c.load_quickly-in-Lhu.ensures size c.args.pc)

pub returns-in-Sb-clause-done : goal.returns-in-Sb-clause-done
unfolding instr_of
returns-in-Sb-clause-done g c =
    by-op (answers_of (beside_name g.P.Pages.places)) (shown g c.args.memory.now)
    (shown g c.store_quickly.new.memory) c.args.form.now op.Sb
    c.in-Sb.is
    (Store stores.Sb c.args.form.now.rs1 c.args.form.now.rs2 c.args.form.now.imm) 4 refl
    c.args.pc c.args.regs.now c.args.regs.now c.store_quickly.result
    (λ size. c.store_quickly.ensures.done size c.args.pc)

pub returns-in-Sh-clause-done : goal.returns-in-Sh-clause-done
unfolding instr_of
returns-in-Sh-clause-done g c =
    by-op (answers_of (beside_name g.P.Pages.places)) (shown g c.args.memory.now)
    (shown g c.store_quickly-in-Sh.new.memory) c.args.form.now
    op.Sh c.in-Sh.is
    (Store stores.Sh c.args.form.now.rs1 c.args.form.now.rs2 c.args.form.now.imm) 4 refl
    c.args.pc c.args.regs.now c.args.regs.now c.store_quickly-in-Sh.result
    (λ size. c.store_quickly-in-Sh.ensures.done size c.args.pc)

pub returns-in-Fence-clause-done : goal.returns-in-Fence-clause-done
unfolding instr_of effect
returns-in-Fence-clause-done g c =
    by-registers (answers_of (beside_name g.P.Pages.places)) (shown g c.args.memory.now)
    c.args.form.now op.Fence c.in-Fence.is (Fence false 0 0 0) 4 refl c.args.pc c.args.regs.now
    c.args.regs.now On (λ size. (refl, refl))
