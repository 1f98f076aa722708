use Rattle.quantum_run.specs.Showing.{beside_name}
use Rattle.std.specs.Borrow.{GName}
use Rattle.std.proofs.Common.{ℕ, ◌+◌, ◌%◌, ◌^◌, List, Option, ap, refl, subst, unwrap_or}
use Rattle.dos_world.specs.declared.Reason.TheVariants.{Fault, Service}
use Rattle.rv_isa.specs.declared.Instr.TheVariants.{Ecall, Imm, Jal, Jalr, Load, Reg, Shift, Store}
use Rattle.rv_isa.specs.declared.ImmOp.TheVariants as imms
use Rattle.rv_isa.specs.declared.LoadOp.TheVariants as loads
use Rattle.rv_isa.specs.declared.RegOp.TheVariants as regs
use Rattle.rv_isa.specs.declared.ShiftOp.TheVariants as shifts
use Rattle.rv_isa.specs.declared.StoreOp.TheVariants as stores
use Rattle.rv_form.specs.Forms.{instr_of_form}
use Rattle.flat_machine.specs.Effect.{effect}
use Rattle.rv_exec.specs.Arrivals.{SettlesBy}
use Rattle.rv_exec.specs.Instruction.{effect_of_form}
use Rattle.code_pages.specs.Kinds.{writes}
use Rattle.code_pages.specs.declared.kind.Kind.TheVariants as kind
use Rattle.quantum_run.specs.Flying.{DoneOrNot}
use Rattle.quantum_run.specs.Answering.{Still, still}
use Rattle.quantum_run.specs.Showing.{ShowsKnown, answers_of}
use Rattle.quantum_run.specs.declared.thread_memory.Running.{Running}
use Rattle.quantum_run.proofs.Flying.{by-kind, by-settling, kind-is, settled}
use Rattle.quantum_run.proofs.lines.perform_line.Given as given
use Rattle.quantum_run.proofs.lines.perform_line.Goals as goal

-- what a memory shows
abbrev shown : (g : given.Over) → Running g.row.P.Denot g.P.Pages
    → (Still × (g.P.Pages.Fixed × GName)) × List (Option (List ℕ)) → g.P.Pages.State → Type 0
shown g m = ShowsKnown (still m.tid (g.P.Pages.owners m.pages) m.space.now.entries)
    (g.P.Pages.fixed m.pages, m.compared.ghost_name) (g.P.Pages.state m.pages)
    (g.P.Pages.pages m.pages) m.compared.now.slots m.compared.now.blocks

pub returns-in-Addi-clause-done : goal.returns-in-Addi-clause-done
returns-in-Addi-clause-done g c =
    by-settling (answers_of (beside_name g.P.Pages.places)) (shown g c.args.memory.now)
    c.args.line.now.kind kind.Addi c.args.line.now.turned c.args.line.now.form c.args.line.now.size
    c.in-Addi.is c.args.line.now.is (Imm imms.Addi c.args.line.now.form.rd c.args.line.now.form.rs1
    c.args.line.now.form.imm) refl ((c.args.base + c.args.line.now.offset) % 2 ^ 32) c.args.regs.now
    c.immediate.new.regs c.immediate.result Service (c.immediate.ensures c.args.line.now.size
    ((c.args.base + c.args.line.now.offset) % 2 ^ 32) Service)

pub returns-in-Add-clause-done : goal.returns-in-Add-clause-done
returns-in-Add-clause-done g c =
    by-settling (answers_of (beside_name g.P.Pages.places)) (shown g c.args.memory.now)
    c.args.line.now.kind kind.Add c.args.line.now.turned c.args.line.now.form c.args.line.now.size
    c.in-Add.is c.args.line.now.is (Reg regs.Add c.args.line.now.form.rd c.args.line.now.form.rs1
    c.args.line.now.form.rs2) refl ((c.args.base + c.args.line.now.offset) % 2 ^ 32) c.args.regs.now
    c.register.new.regs c.register.result Service (c.register.ensures c.args.line.now.size
    ((c.args.base + c.args.line.now.offset) % 2 ^ 32) Service)

pub returns-in-Slli-clause-done : goal.returns-in-Slli-clause-done
returns-in-Slli-clause-done g c =
    by-settling (answers_of (beside_name g.P.Pages.places)) (shown g c.args.memory.now)
    c.args.line.now.kind kind.Slli c.args.line.now.turned c.args.line.now.form c.args.line.now.size
    c.in-Slli.is c.args.line.now.is (Shift shifts.Slli c.args.line.now.form.rd
    c.args.line.now.form.rs1 c.args.line.now.form.rs2) refl
    ((c.args.base + c.args.line.now.offset) % 2 ^ 32) c.args.regs.now c.shift.new.regs
    c.shift.result Service
    (c.shift.ensures c.args.line.now.size ((c.args.base + c.args.line.now.offset) % 2 ^ 32) Service)

pub returns-in-Srli-clause-done : goal.returns-in-Srli-clause-done
returns-in-Srli-clause-done g c =
    by-settling (answers_of (beside_name g.P.Pages.places)) (shown g c.args.memory.now)
    c.args.line.now.kind kind.Srli c.args.line.now.turned c.args.line.now.form c.args.line.now.size
    c.in-Srli.is c.args.line.now.is (Shift shifts.Srli c.args.line.now.form.rd
    c.args.line.now.form.rs1 c.args.line.now.form.rs2) refl
    ((c.args.base + c.args.line.now.offset) % 2 ^ 32) c.args.regs.now c.shift-in-Srli.new.regs
    c.shift-in-Srli.result Service
    (c.shift-in-Srli.ensures c.args.line.now.size
    ((c.args.base + c.args.line.now.offset) % 2 ^ 32) Service)

pub returns-in-Xor-clause-done : goal.returns-in-Xor-clause-done
returns-in-Xor-clause-done g c =
    by-settling (answers_of (beside_name g.P.Pages.places)) (shown g c.args.memory.now)
    c.args.line.now.kind kind.Xor c.args.line.now.turned c.args.line.now.form c.args.line.now.size
    c.in-Xor.is c.args.line.now.is (Reg regs.Xor c.args.line.now.form.rd c.args.line.now.form.rs1
    c.args.line.now.form.rs2) refl ((c.args.base + c.args.line.now.offset) % 2 ^ 32) c.args.regs.now
    c.register-in-Xor.new.regs c.register-in-Xor.result Service
    (c.register-in-Xor.ensures c.args.line.now.size
    ((c.args.base + c.args.line.now.offset) % 2 ^ 32) Service)

pub returns-in-And-clause-done : goal.returns-in-And-clause-done
returns-in-And-clause-done g c =
    by-settling (answers_of (beside_name g.P.Pages.places)) (shown g c.args.memory.now)
    c.args.line.now.kind kind.And c.args.line.now.turned c.args.line.now.form c.args.line.now.size
    c.in-And.is c.args.line.now.is (Reg regs.And c.args.line.now.form.rd c.args.line.now.form.rs1
    c.args.line.now.form.rs2) refl ((c.args.base + c.args.line.now.offset) % 2 ^ 32) c.args.regs.now
    c.register-in-And.new.regs c.register-in-And.result Service
    (c.register-in-And.ensures c.args.line.now.size
    ((c.args.base + c.args.line.now.offset) % 2 ^ 32) Service)

pub returns-in-Jal-clause-done : goal.returns-in-Jal-clause-done
returns-in-Jal-clause-done g c =
    by-settling (answers_of (beside_name g.P.Pages.places)) (shown g c.args.memory.now)
    c.args.line.now.kind kind.Jal c.args.line.now.turned c.args.line.now.form c.args.line.now.size
    c.in-Jal.is c.args.line.now.is (Jal c.args.line.now.form.rd c.args.line.now.form.imm) refl
    ((c.args.base + c.args.line.now.offset) % 2 ^ 32) c.args.regs.now c.jal.new.regs c.jal.result
    (Fault 7)
    (subst (λ pc. SettlesBy c.args.line.now.size pc c.jal.result (Fault 7) c.args.regs.now
    c.jal.new.regs (effect (Jal c.args.line.now.form.rd c.args.line.now.form.imm)
    c.args.line.now.size)) c.pc_at-in-Jal.ensures c.jal.ensures.settles)

pub returns-in-Jalr-clause-done : goal.returns-in-Jalr-clause-done
returns-in-Jalr-clause-done g c =
    by-settling (answers_of (beside_name g.P.Pages.places)) (shown g c.args.memory.now)
    c.args.line.now.kind kind.Jalr c.args.line.now.turned c.args.line.now.form c.args.line.now.size
    c.in-Jalr.is c.args.line.now.is (Jalr c.args.line.now.form.rd c.args.line.now.form.rs1
    c.args.line.now.form.imm) refl ((c.args.base + c.args.line.now.offset) % 2 ^ 32) c.args.regs.now
    c.jalr.new.regs c.jalr.result (Fault 7) (subst (λ pc. SettlesBy c.args.line.now.size pc
    c.jalr.result (Fault 7) c.args.regs.now c.jalr.new.regs
    (effect (Jalr c.args.line.now.form.rd c.args.line.now.form.rs1
    c.args.line.now.form.imm) c.args.line.now.size)) c.pc_at-in-Jalr.ensures
    c.jalr.ensures.settles)

pub returns-in-Lw-clause-done : goal.returns-in-Lw-clause-done
returns-in-Lw-clause-done g c =
    by-kind (answers_of (beside_name g.P.Pages.places)) (shown g c.args.memory.now)
    (shown g c.args.memory.now) c.args.line.now.kind kind.Lw c.args.line.now.turned
    c.args.line.now.form c.args.line.now.size c.in-Lw.is c.args.line.now.is
    (Load loads.Lw c.args.line.now.form.rd c.args.line.now.form.rs1 c.args.line.now.form.imm) refl
    ((c.args.base + c.args.line.now.offset) % 2 ^ 32) c.args.regs.now c.load_quickly.new.regs
    c.load_quickly.result
    (c.load_quickly.ensures c.args.line.now.size ((c.args.base + c.args.line.now.offset) % 2 ^ 32))

pub returns-in-Lbu-clause-done : goal.returns-in-Lbu-clause-done
returns-in-Lbu-clause-done g c =
    by-kind (answers_of (beside_name g.P.Pages.places)) (shown g c.args.memory.now)
    (shown g c.args.memory.now) c.args.line.now.kind kind.Lbu c.args.line.now.turned
    c.args.line.now.form c.args.line.now.size c.in-Lbu.is c.args.line.now.is
    (Load loads.Lbu c.args.line.now.form.rd c.args.line.now.form.rs1 c.args.line.now.form.imm) refl
    ((c.args.base + c.args.line.now.offset) % 2 ^ 32) c.args.regs.now
    c.load_quickly-in-Lbu.new.regs c.load_quickly-in-Lbu.result
    (c.load_quickly-in-Lbu.ensures c.args.line.now.size
    ((c.args.base + c.args.line.now.offset) % 2 ^ 32))

pub returns-in-Sw-clause-done : goal.returns-in-Sw-clause-done
returns-in-Sw-clause-done g c =
    by-kind (answers_of (beside_name g.P.Pages.places)) (shown g c.args.memory.now)
    (shown g c.store_quickly.new.memory) c.args.line.now.kind
    kind.Sw
    c.args.line.now.turned c.args.line.now.form c.args.line.now.size c.in-Sw.is c.args.line.now.is
    (Store stores.Sw c.args.line.now.form.rs1 c.args.line.now.form.rs2 c.args.line.now.form.imm)
    refl
    ((c.args.base + c.args.line.now.offset) % 2 ^ 32) c.args.regs.now c.args.regs.now
    c.store_quickly.result
    (c.store_quickly.ensures.done c.args.line.now.size
    ((c.args.base + c.args.line.now.offset) % 2 ^ 32))

pub returns-in-Equal-clause-done : goal.returns-in-Equal-clause-done
returns-in-Equal-clause-done g c =
    settled (answers_of (beside_name g.P.Pages.places)) (shown g c.args.memory.now)
    c.args.line.now.size ((c.args.base + c.args.line.now.offset) % 2 ^ 32) c.args.regs.now
    c.args.regs.now
    c.equal.result (Fault 7) (effect_of_form c.args.line.now.form)
    (subst (λ pc. SettlesBy c.args.line.now.size pc c.equal.result (Fault 7) c.args.regs.now
    c.args.regs.now (effect_of_form c.args.line.now.form)) c.pc_at.ensures c.equal.ensures)

pub returns-in-Below-clause-done : goal.returns-in-Below-clause-done
returns-in-Below-clause-done g c =
    settled (answers_of (beside_name g.P.Pages.places)) (shown g c.args.memory.now)
    c.args.line.now.size ((c.args.base + c.args.line.now.offset) % 2 ^ 32) c.args.regs.now
    c.args.regs.now
    c.below.result (Fault 7) (effect_of_form c.args.line.now.form)
    (subst (λ pc. SettlesBy c.args.line.now.size pc c.below.result (Fault 7) c.args.regs.now
    c.args.regs.now (effect_of_form c.args.line.now.form)) c.pc_at-in-Below.ensures c.below.ensures)

pub returns-in-Less-clause-done : goal.returns-in-Less-clause-done
returns-in-Less-clause-done g c =
    settled (answers_of (beside_name g.P.Pages.places)) (shown g c.args.memory.now)
    c.args.line.now.size ((c.args.base + c.args.line.now.offset) % 2 ^ 32) c.args.regs.now
    c.args.regs.now
    c.less.result (Fault 7) (effect_of_form c.args.line.now.form)
    (subst (λ pc. SettlesBy c.args.line.now.size pc c.less.result (Fault 7) c.args.regs.now
    c.args.regs.now (effect_of_form c.args.line.now.form)) c.pc_at-in-Less.ensures c.less.ensures)

pub returns-in-Other-clause-done : goal.returns-in-Other-clause-done
returns-in-Other-clause-done g c =
    by-kind (answers_of (beside_name g.P.Pages.places)) (shown g c.args.memory.now)
    (shown g c.other.new.memory) c.args.line.now.kind kind.Other c.args.line.now.turned
    c.args.line.now.form c.args.line.now.size c.in-Other.is c.args.line.now.is
    (unwrap_or (instr_of_form c.args.line.now.form) (Ecall, 0)).0 refl
    ((c.args.base + c.args.line.now.offset) % 2 ^ 32) c.args.regs.now c.other.new.regs
    c.other.result
    (subst (λ pc. DoneOrNot (answers_of (beside_name g.P.Pages.places)) (shown g c.args.memory.now)
    (shown g c.other.new.memory)
    c.args.line.now.size pc c.args.regs.now c.other.new.regs c.other.result
    (effect (unwrap_or (instr_of_form c.args.line.now.form) (Ecall, 0)).0 c.args.line.now.size))
    c.pc_at-in-Other.ensures
    (c.other.ensures.done _ c.args.line.now.size (kind-is c.args.line.now.kind kind.Other
    c.args.line.now.turned c.args.line.now.form c.args.line.now.size
    c.in-Other.is c.args.line.now.is)))

pub returns-in-Jal-clause-on : goal.returns-in-Jal-clause-on
returns-in-Jal-clause-on g c = λ on. absurd (c.jal.ensures.away on)

pub returns-in-Jalr-clause-on : goal.returns-in-Jalr-clause-on
returns-in-Jalr-clause-on g c = λ on. absurd (c.jalr.ensures.away on)

pub immediate-requires : goal.immediate-requires
immediate-requires g c = c.args.line.now.nonzero (ap writes c.in-Addi.is)

pub register-requires : goal.register-requires
register-requires g c = c.args.line.now.nonzero (ap writes c.in-Add.is)

pub shift-requires : goal.shift-requires
shift-requires g c = c.args.line.now.nonzero (ap writes c.in-Slli.is)

pub shift-requires-in-Srli : goal.shift-requires-in-Srli
shift-requires-in-Srli g c = c.args.line.now.nonzero (ap writes c.in-Srli.is)

pub register-requires-in-Xor : goal.register-requires-in-Xor
register-requires-in-Xor g c = c.args.line.now.nonzero (ap writes c.in-Xor.is)

pub register-requires-in-And : goal.register-requires-in-And
register-requires-in-And g c = c.args.line.now.nonzero (ap writes c.in-And.is)

pub load_quickly-requires : goal.load_quickly-requires
load_quickly-requires g c = λ is. c.args.line.now.nonzero (ap writes c.in-Lw.is)

pub load_quickly-requires-in-Lbu : goal.load_quickly-requires-in-Lbu
load_quickly-requires-in-Lbu g c = λ is. c.args.line.now.nonzero (ap writes c.in-Lbu.is)
