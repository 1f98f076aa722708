use Rattle.std.proofs.Common.{arith}
use Rattle.code_pages.proofs.known.CodePages.line.Goals as goal

pub is_live-requires : goal.is_live-requires
is_live-requires c = c.line_at-at.ensures.within (omega (arith, c.if-at-eq0.false))

pub learn_again-requires-clause-stale : goal.learn_again-requires-clause-stale
learn_again-requires-clause-stale c = c.is_live.ensures.stale c.if-is_live.false
