use Rattle.std.proofs.Common.{◌∙◌, sym, refl}
use Rattle.rv_isa.specs.Fields.{field}
use Rattle.rv_isa.specs.Meaning.{store_rows, store_in}
use Rattle.rv_isa.proofs.ByFields.{by_read, found_none}
use Rattle.rv_isa.proofs.groups.store_op.Goals as goal

pub returns-then-opcode-ne35 : goal.returns-then-opcode-ne35
unfolding store_in
returns-then-opcode-ne35 c =
    sym (found_none c.args.word 0x23
    (λ e. c.if-opcode-ne35.true (c.opcode.ensures.value ∙ e)) store_rows refl)

pub returns : goal.returns
unfolding store_in
returns c = sym c.store_by.ensures
    ∙ by_read store_rows c.args.word 0x23 c.opcode.result (field 31 25 c.args.word)
    (field 31 25 c.args.word) c.funct3.result refl c.opcode.ensures.value c.if-opcode-ne35.false
    refl refl c.funct3.ensures.value
