use Rattle.std.proofs.Common.{◌∙◌, List, Some, sym, ap}
use Rattle.dos_world.specs.declared.Post.{Post}
use Rattle.dos_io.specs.declared.exchange.Exchange.{Exchange}
use Rattle.dos_io.specs.declared.exchange.Exchange.TheVariants.{Signals}
use Rattle.dos_io.specs.Exchanges.{question_of}
use Rattle.dos_io.specs.Shims.{shim_answered}
use Rattle.log_text.specs.Views.{exchange_of}
use Rattle.shim_log.specs.Replay.{replayer_state}
use Rattle.shim_log.proofs.ReplayLaws.{plays, signals_is}
use Rattle.shim_log.proofs.replayer.ReplayerShim.signals.Goals as goal

pub advance-requires-clause-more : goal.advance-requires-clause-more
advance-requires-clause-more c = c.in-Ok.ensures.more

pub returns-in-Signals-clause-ok : goal.returns-in-Signals-clause-ok
returns-in-Signals-clause-ok c =
    let got = c.in-Ok.ensures.entry ∙ ap (λ x. Some (exchange_of x)) c.in-Signals.is in
    let asks = ap (λ x. question_of (exchange_of x)) (sym c.in-Signals.is) ∙ c.in-Ok.ensures.asked
    in
    plays c.args.self.now c.advance.new.self _ got c.advance.ensures
    ∙ ap (λ (e : Exchange). shim_answered (replayer_state c.args.self.now) e)
    (signals_is _ _ _ asks)
    ∙ ap (λ (list : List Post). shim_answered (replayer_state c.args.self.now)
    (Signals c.args.round list)) (sym c.fill.ensures)
