use Rattle.std.proofs.Common.{arith}
use Rattle.group_text.specs.Records.{group_of_record}
use Rattle.group_text.proofs.GroupLaws.{groups_are_spelled}
use Rattle.lawful_groups.proofs.reading.read_lawful_group.Goals as goal

pub is_lawful-requires : goal.is_lawful-requires
is_lawful-requires c =
    (groups_are_spelled.found c.args.bytes.now (group_of_record c.in-Ok.group)
    (λ i. omega (arith, c.type_inv.bytes i))
    c.in-Ok.ensures).1

pub returns-in-Ok-true-clause-fits : goal.returns-in-Ok-true-clause-fits
returns-in-Ok-true-clause-fits c =
    (groups_are_spelled.found c.args.bytes.now (group_of_record c.in-Ok.group)
    (λ i. omega (arith, c.type_inv.bytes i))
    c.in-Ok.ensures).1
