use Rattle.std.proofs.Common.{ap, ◌+◌}
use Rattle.proc_table.proofs.KeptRecords.{last_collected, last_passes}
use Rattle.proc_table.proofs.records.Records.add_collected.Goals as goal

pub collect-requires : goal.collect-requires
collect-requires c = last_passes c.args.self.now c.args.parent c.args.status _ c.add.ensures
    (ap (λ n. n + 1) c.len-number.ensures)

pub returns : goal.returns
returns c = last_collected c.args.self.now c.args.parent c.args.status _ c.add.ensures
    (ap (λ n. n + 1) c.len-number.ensures) c.collect.ensures
