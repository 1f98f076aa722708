use Rattle.std.proofs.Common.{◌∙◌, ap}
use Rattle.rv_isa.specs.Groups.{register_by}
use Rattle.rv_isa.proofs.groups.register_by.Goals as goal

pub plain_op-requires : goal.plain_op-requires
plain_op-requires c = c.requires

pub multiply_op-requires : goal.multiply_op-requires
multiply_op-requires c = c.requires

pub other_op-requires : goal.other_op-requires
other_op-requires c = c.requires

pub returns-in-0 : goal.returns-in-0
returns-in-0 c = ap (λ n. register_by n c.args.funct3) c.in-0.is ∙ c.plain_op.ensures

pub returns-in-1 : goal.returns-in-1
returns-in-1 c = ap (λ n. register_by n c.args.funct3) c.in-1.is ∙ c.multiply_op.ensures

pub returns-in-32 : goal.returns-in-32
returns-in-32 c = ap (λ n. register_by n c.args.funct3) c.in-32.is ∙ c.other_op.ensures
