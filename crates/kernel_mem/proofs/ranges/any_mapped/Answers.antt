use Rattle.std.proofs.Common.{◌∙◌}
use Rattle.kernel_mem.proofs.Runs.{any_entry}
use Rattle.kernel_mem.proofs.ranges.any_mapped.Goals as goal

pub returns : goal.returns
returns c = c.has_any.ensures ∙ any_entry c.args.space.now.entries c.args.page c.args.count
