use Rattle.std.proofs.Common.{◌∙◌, ap}
use Rattle.dos_io.specs.declared.exchange.Exchange.{Exchange}
use Rattle.dos_io.specs.Shims.{shim_answered}
use Rattle.shim_log.specs.Replay.{replayer_state}
use Rattle.shim_log.proofs.ReplayLaws.{plays, end_is}
use Rattle.shim_log.proofs.replayer.ReplayerShim.end.Goals as goal

pub advance-requires-clause-more : goal.advance-requires-clause-more
advance-requires-clause-more c = c.in-Ok.ensures.more

pub returns-in-Ok-clause-ok : goal.returns-in-Ok-clause-ok
returns-in-Ok-clause-ok c =
    plays c.args.self.now c.advance.new.self _ c.in-Ok.ensures.entry c.advance.ensures
    ∙ ap (λ (e : Exchange). shim_answered (replayer_state c.args.self.now) e)
    (end_is _ _ _ c.in-Ok.ensures.asked)
