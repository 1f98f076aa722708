use Rattle.std.proofs.Common.{arith, refl}
use Rattle.shim_log.proofs.RecorderLaws.{stops_follow, adds_ok, adds_follow, given_counted}
use Rattle.shim_log.proofs.RecorderLaws.{given_read}
use Rattle.shim_log.proofs.LedgerLaws.{clock_grows}
use Rattle.shim_log.proofs.AskingCalls.{answer_asks, clock_kept, stop_asks, stop_asks_nothing}
use Rattle.shim_log.proofs.AskingCalls.{asked_reading, asked_no_reading}
use Rattle.shim_log.proofs.recorder.RecorderShim.clock.Goals as goal

pub returns-in-Some-clause-ok : goal.returns-in-Some-clause-ok
returns-in-Some-clause-ok g c = adds_ok c.args.self.now.ledger c.make_room.new.self _ _ _ _
    c.requires c.in_ok-make_room.ensures.same c.add_clock.ensures

pub returns-in-Some-clause-follows : goal.returns-in-Some-clause-follows
returns-in-Some-clause-follows g c = (
  refl,
  adds_follow _ _ _ _ _ _ _ _ _ _ c.requires c.in_ok-make_room.ensures.same
      c.add_clock.ensures (omega arith) (given_counted _ _ _ _ _ _ _ c.in-Some.ensures),
  answer_asks _ _ _ _ _ _ _ (clock_kept c.args.self.now.ledger _ _ _ _ _
      c.in_ok-make_room.ensures.same
      c.add_clock.ensures)
      (adds_ok c.args.self.now.ledger c.make_room.new.self _ _ _ _ c.requires
      c.in_ok-make_room.ensures.same c.add_clock.ensures)
      (asked_no_reading c.args.self.now.ledger c.make_room.new.self c.make_room.new.self.room _
      c.args.round c.args.tid _ _ c.in_ok-make_room.ensures.same c.in-Some.ensures) refl,
)

pub returns-in-Ok-clause-ok : goal.returns-in-Ok-clause-ok
returns-in-Ok-clause-ok g c = adds_ok c.args.self.now.ledger c.make_room.new.self _ _ _ _ c.requires
    c.in_ok-make_room.ensures.same c.add_clock-in-Ok.ensures

pub returns-in-Ok-clause-follows : goal.returns-in-Ok-clause-follows
returns-in-Ok-clause-follows g c = (
  refl,
  adds_follow _ _ _ _ _ _ _ _ _ _ c.requires c.in_ok-make_room.ensures.same
      c.add_clock-in-Ok.ensures c.clock.ensures.cause.later
      (given_read _ _ _ _ _ _ _ _ c.in-None.ensures c.in-Ok.ensures.told_ok),
  answer_asks _ _ _ _ _ _ _ (clock_kept c.args.self.now.ledger _ _ _ _ _
      c.in_ok-make_room.ensures.same
      c.add_clock-in-Ok.ensures)
      (adds_ok c.args.self.now.ledger c.make_room.new.self _ _ _ _ c.requires
      c.in_ok-make_room.ensures.same c.add_clock-in-Ok.ensures)
      (asked_reading c.args.self.now.ledger c.make_room.new.self c.make_room.new.self.room _
      c.args.round c.args.tid _ _ c.in_ok-make_room.ensures.same c.in-None.ensures
      c.clock.ensures.asked)
      c.in-Ok.ensures.steady,
)

pub returns-in_err-make_room-clause-follows : goal.returns-in_err-make_room-clause-follows
returns-in_err-make_room-clause-follows g c = (
  refl,
  stops_follow c.args.self.now.ledger
      (record c.args.self.now.ledger { room = c.make_room.new.self.room }) c.make_room.new.self
      c.make_room.new.self.room _ _ _ _ _ _ refl c.in_err-make_room.ensures.err.1 refl (omega arith)
      (λ e. absurd (c.in_err-make_room.ensures.err.0 e)),
  stop_asks_nothing c.args.self.now.ledger
      (record c.args.self.now.ledger { room = c.make_room.new.self.room }) c.make_room.new.self
      c.make_room.new.self.room _ _ _ _ refl c.in_err-make_room.ensures.err.1
      c.in_err-make_room.ensures.err.0,
)

pub returns-in-Err-clause-follows : goal.returns-in-Err-clause-follows
returns-in-Err-clause-follows g c = (
  refl,
  stops_follow c.args.self.now.ledger c.make_room.new.self c.stop.new.self
      c.make_room.new.self.room _ _ _ _ _ _ c.in_ok-make_room.ensures.same c.stop.ensures.after
      c.in-Err.ensures.told_err c.clock.ensures.cause.later (λ _. c.in-Err.ensures.cause.failed),
  stop_asks c.args.self.now.ledger c.make_room.new.self c.stop.new.self
      c.make_room.new.self.room _ _ _ _ _ _ c.in_ok-make_room.ensures.same c.stop.ensures.after
      (asked_reading c.args.self.now.ledger c.make_room.new.self c.make_room.new.self.room _
      c.args.round c.args.tid _ _ c.in_ok-make_room.ensures.same c.in-None.ensures
      c.clock.ensures.asked) (λ none. absurd none),
)

pub make_room-requires-clause-grows : goal.make_room-requires-clause-grows
make_room-requires-clause-grows g c =
    clock_grows c.args.self.now.ledger.posts c.args.self.now.ledger.entries c.args.round c.args.tid
