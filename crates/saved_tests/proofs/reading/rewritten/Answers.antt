use Rattle.std.proofs.Common.{arith}
use Rattle.group_text.specs.Records.{group_of_record}
use Rattle.group_text.proofs.GroupLaws.{groups_are_spelled}
use Rattle.saved_tests.proofs.reading.rewritten.Goals as goal

pub write_group-requires : goal.write_group-requires
write_group-requires c =
    (groups_are_spelled.found c.args.text.now (group_of_record c.in-Ok.group)
    (λ i. omega (arith, c.type_inv.text i))
    c.in-Ok.ensures).1
