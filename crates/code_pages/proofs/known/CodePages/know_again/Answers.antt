use Rattle.code_pages.proofs.known.CodePages.know_again.Goals as goal

pub renew-known-requires-clause-stale : goal.renew-known-requires-clause-stale
renew-known-requires-clause-stale c = c.is_live.ensures.stale c.if-is_live.false
