use Rattle.std.proofs.Common.{sym}
use Rattle.page_store.proofs.Counts.{owned-within}
use Rattle.kernel_mem.proofs.Reaching.{frame_of}
use Rattle.kernel_mem.proofs.copy.open.Goals as goal

pub owner-requires : goal.owner-requires
owner-requires c = owned-within c.args.frames.now.owners c.in-Some.entry.frame
    (c.requires.mapped c.args.address c.in-Some.entry (sym c.in-Some.ensures))

pub returns-then-is_foreign-clause-has : goal.returns-then-is_foreign-clause-has
returns-then-is_foreign-clause-has c = frame_of c.args.table.now c.args.frames.now c.args.tid
    c.args.address c.args.access c.in-Some.entry c.requires.mapped c.requires.allowed
    (sym c.in-Some.ensures)

pub returns-else-is_foreign-clause-has : goal.returns-else-is_foreign-clause-has
returns-else-is_foreign-clause-has c = frame_of c.args.table.now c.args.frames.now c.args.tid
    c.args.address c.args.access c.in-Some.entry c.requires.mapped c.requires.allowed
    (sym c.in-Some.ensures)
