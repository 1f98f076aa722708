use Rattle.std.proofs.Common.{◌∙◌, sym, refl}
use Rattle.rv_isa.specs.Fields.{field}
use Rattle.rv_isa.specs.Meaning.{load_rows, load_in}
use Rattle.rv_isa.proofs.ByFields.{by_read, found_none}
use Rattle.rv_isa.proofs.groups.load_op.Goals as goal

pub returns-then-opcode-ne3 : goal.returns-then-opcode-ne3
unfolding load_in
returns-then-opcode-ne3 c =
    sym (found_none c.args.word 0x03
    (λ e. c.if-opcode-ne3.true (c.opcode.ensures.value ∙ e)) load_rows refl)

pub returns : goal.returns
unfolding load_in
returns c = sym c.load_by.ensures
    ∙ by_read load_rows c.args.word 0x03 c.opcode.result (field 31 25 c.args.word)
    (field 31 25 c.args.word) c.funct3.result refl c.opcode.ensures.value c.if-opcode-ne3.false
    refl refl c.funct3.ensures.value
