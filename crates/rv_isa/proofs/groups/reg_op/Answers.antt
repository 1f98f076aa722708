use Rattle.std.proofs.Common.{◌∙◌, sym, refl}
use Rattle.std.specs.Prelude.{◌++◌}
use Rattle.rv_isa.specs.Meaning.{register_rows, multiply_rows, register_in}
use Rattle.rv_isa.proofs.ByFields.{by_read, found_none}
use Rattle.rv_isa.proofs.groups.reg_op.Goals as goal

pub returns-then-opcode-ne51 : goal.returns-then-opcode-ne51
unfolding register_in
returns-then-opcode-ne51 c =
    sym (found_none c.args.word 0x33 (λ e. c.if-opcode-ne51.true (c.opcode.ensures.value ∙ e))
    (register_rows ++ multiply_rows) refl)

pub returns : goal.returns
unfolding register_in
returns c = sym c.register_by.ensures
    ∙ by_read (register_rows ++ multiply_rows) c.args.word 0x33 c.opcode.result c.funct7.result
    c.funct7.result c.funct3.result refl c.opcode.ensures.value c.if-opcode-ne51.false
    c.funct7.ensures.value refl c.funct3.ensures.value
