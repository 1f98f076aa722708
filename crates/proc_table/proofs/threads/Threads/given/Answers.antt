use Rattle.std.proofs.Common.{sym}
use Rattle.proc_table.proofs.Shown.{length_shown}
use Rattle.proc_table.proofs.threads.Threads.given.Goals as goal

pub returns : goal.returns
returns c = sym (length_shown c.self.view_is c.self.invariant)
