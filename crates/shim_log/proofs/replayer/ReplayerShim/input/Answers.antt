use Rattle.std.proofs.Common.{◌≡◌, ◌∙◌, ◌++◌, ℕ, List, Some, take, drop, length, sym, ap}
use Rattle.std.proofs.lemmas.List.{take_at}
use Rattle.dos_io.specs.declared.exchange.Exchange.TheVariants.{Input}
use Rattle.dos_io.specs.declared.exchange.Exchange.{Exchange}
use Rattle.dos_io.specs.Exchanges.{question_of}
use Rattle.dos_io.specs.Shims.{shim_answered}
use Rattle.log_text.specs.Views.{exchange_of}
use Rattle.shim_log.specs.Replay.{replayer_state}
use Rattle.shim_log.proofs.ReplayLaws.{plays, input_is}
use Rattle.shim_log.proofs.replayer.ReplayerShim.input.Goals as goal

pub advance-requires-clause-more : goal.advance-requires-clause-more
advance-requires-clause-more c = c.in-Ok.ensures.more

pub returns-in-Input-clause-ok : goal.returns-in-Input-clause-ok
returns-in-Input-clause-ok c =
    let got = c.in-Ok.ensures.entry ∙ ap (λ x. Some (exchange_of x)) c.in-Input.is in
    let asks = ap (λ x. question_of (exchange_of x)) (sym c.in-Input.is) ∙ c.in-Ok.ensures.asked in
    let bytes : take (length c.in-Input.bytes.now)
    (c.copy_from_slice.new.self ++ drop (length c.in-Input.bytes.now) c.args.buf.now)
    ≡ c.in-Input.bytes.now =
    take_at c.copy_from_slice.new.self (drop (length c.in-Input.bytes.now) c.args.buf.now)
    (length c.in-Input.bytes.now) (ap length c.copy_from_slice.ensures.after)
    ∙ c.copy_from_slice.ensures.after in
    plays c.args.self.now c.advance.new.self _ got c.advance.ensures
    ∙ ap (λ (e : Exchange). shim_answered (replayer_state c.args.self.now) e)
    (input_is _ _ _ _ _ _ _ asks)
    ∙ ap (λ (bs : List ℕ). shim_answered (replayer_state c.args.self.now)
    (Input c.args.round c.args.tid (length c.args.buf.now) bs)) (sym bytes)
