use Rattle.std.proofs.Common.{sym, subst, arith}
use Rattle.page_store.specs.Store.{Store}
use Rattle.kernel_mem.specs.Forking.{IsUsedMore}
use Rattle.kernel_mem.proofs.Copies.{more-shared, more-copied, copied-private, fewer-free}
use Rattle.kernel_mem.proofs.Copies.{some-free, one-private}
use Rattle.kernel_mem.proofs.forking.copy_entry.Goals as goal

pub returns-then-entry-clause-more : goal.returns-then-entry-clause-more
returns-then-entry-clause-more c =
    subst (λ (s : Store). IsUsedMore c.args.frames.now c.args.entry.frame s)
    (sym c.use_more.ensures.one)
    (more-shared c.args.frames.now c.args.entry.frame c.requires.home c.use_more.ensures.within)

pub unreachable-requires : goal.unreachable-requires
unreachable-requires c = some-free c.args.frames.now.owners
    (omega (arith, one-private c.args.entry c.if-entry.false, c.requires.free))
    c.in-None.ensures.found

pub returns-clause-copies : goal.returns-clause-copies
returns-clause-copies c =
    λ w T. copied-private w c.args.frames.now c.fresh_copy.new.self T c.args.tid c.in-Some.frame
    c.args.entry c.if-entry.false c.requires.home c.requires.taken c.in-Some.ensures.found
    c.in-Some.ensures.one

pub returns-clause-more : goal.returns-clause-more
returns-clause-more c = more-copied c.args.frames.now c.fresh_copy.new.self c.args.entry.frame
    c.in-Some.frame c.args.tid c.requires.home c.in-Some.ensures.one

pub returns-clause-free : goal.returns-clause-free
returns-clause-free c = omega (
  arith,
  one-private c.args.entry c.if-entry.false,
  fewer-free c.args.frames.now c.fresh_copy.new.self c.args.entry.frame c.in-Some.frame
      c.args.tid c.in-Some.ensures.found c.in-Some.ensures.one,
)
