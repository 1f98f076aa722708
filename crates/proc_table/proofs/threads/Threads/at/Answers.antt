use Rattle.proc_table.proofs.Lengths.{index_of}
use Rattle.proc_table.proofs.Shown.{living_at, living_within}
use Rattle.proc_table.proofs.threads.Threads.at.Goals as goal

pub index-entry-requires : goal.index-entry-requires
index-entry-requires c =
    index_of c.self.inside.live (living_within c.self.view_is c.self.invariant c.requires)

pub returns : goal.returns
returns c = living_at c.self.view_is c.self.invariant c.requires c.index-entry.ensures
