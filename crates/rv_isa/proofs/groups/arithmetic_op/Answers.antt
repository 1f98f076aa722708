use Rattle.std.proofs.Common.{◌∙◌, sym, refl}
use Rattle.rv_isa.specs.Meaning.{arithmetic_rows, arithmetic_in}
use Rattle.rv_isa.proofs.ByFields.{by_read, found_none}
use Rattle.rv_isa.proofs.groups.arithmetic_op.Goals as goal

pub returns-then-opcode-ne19 : goal.returns-then-opcode-ne19
unfolding arithmetic_in
returns-then-opcode-ne19 c =
    sym (found_none c.args.word 0x13
    (λ e. c.if-opcode-ne19.true (c.opcode.ensures.value ∙ e)) arithmetic_rows refl)

pub returns : goal.returns
unfolding arithmetic_in
returns c = sym c.arithmetic_by.ensures
    ∙ by_read arithmetic_rows c.args.word 0x13 c.opcode.result c.funct7.result c.funct7.result
    c.funct3.result refl c.opcode.ensures.value c.if-opcode-ne19.false c.funct7.ensures.value
    refl c.funct3.ensures.value
