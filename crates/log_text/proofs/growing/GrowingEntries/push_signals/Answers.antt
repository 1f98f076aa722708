use Rattle.std.proofs.Common.{◌≤◌, length, arith}
use Rattle.dos_io.specs.declared.exchange.Exchange.TheVariants.{Signals}
use Rattle.log_text.proofs.LengthLaws.{signals_length}
use Rattle.log_text.proofs.GrowingLaws.{loud_grows, is_loud, grown_fits}
use Rattle.log_text.proofs.growing.GrowingEntries.push_signals.Goals as goal

pub push_loud-requires-clause-room : goal.push_loud-requires-clause-room
push_loud-requires-clause-room c =
    let long : 1 ≤ length c.args.list.now = omega arith in
    omega (
      arith,
      signals_length c.args.round c.args.list.now,
      grown_fits c.args.self.now.list (Signals c.args.round c.args.list.now) _
          c.args.self.now.room
          (loud_grows c.args.self.now.list (Signals c.args.round c.args.list.now)
          (is_loud c.args.round c.args.list.now long))
          c.requires.room,
    )
