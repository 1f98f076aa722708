use Rattle.std.proofs.Common.{refl}
use Rattle.debugger.proofs.Kept.{empty_is, filled_is, kept_nothing, kept_push}
use Rattle.debugger.proofs.session.Session.keep_bytes.Goals as goal

pub returns-then-is_empty : goal.returns-then-is_empty
returns-then-is_empty c =
    kept_nothing c.args.puts.now.items c.args.moves c.args.bytes.now
    (empty_is c.args.bytes.now c.is_empty.result c.is_empty.ensures c.if-is_empty.true)

pub returns : goal.returns
returns c =
    kept_push c.args.puts.now.items c.push.new.self.items _ c.args.moves c.args.bytes.now
    c.in_ok-push.ensures.items refl c.in_ok-kept.ensures.items
    (filled_is c.args.bytes.now c.is_empty.result c.is_empty.ensures c.if-is_empty.false)
