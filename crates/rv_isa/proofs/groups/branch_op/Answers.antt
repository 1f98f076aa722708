use Rattle.std.proofs.Common.{◌∙◌, sym, refl}
use Rattle.rv_isa.specs.Fields.{field}
use Rattle.rv_isa.specs.Meaning.{branch_rows, branch_in}
use Rattle.rv_isa.proofs.ByFields.{by_read, found_none}
use Rattle.rv_isa.proofs.groups.branch_op.Goals as goal

pub returns-then-opcode-ne99 : goal.returns-then-opcode-ne99
unfolding branch_in
returns-then-opcode-ne99 c =
    sym (found_none c.args.word 0x63
    (λ e. c.if-opcode-ne99.true (c.opcode.ensures.value ∙ e)) branch_rows refl)

pub returns : goal.returns
unfolding branch_in
returns c = sym c.branch_by.ensures
    ∙ by_read branch_rows c.args.word 0x63 c.opcode.result (field 31 25 c.args.word)
    (field 31 25 c.args.word) c.funct3.result refl c.opcode.ensures.value c.if-opcode-ne99.false
    refl refl c.funct3.ensures.value
