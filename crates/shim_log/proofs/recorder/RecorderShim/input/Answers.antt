use Rattle.std.proofs.Common.{ℕ, [], ◌∷◌, ◌++◌, ◌∙◌, ap, subst, arith, refl}
use Rattle.dos_io.specs.declared.host_question.HostQuestion.TheVariants.{Bytes}
use Rattle.dos_io.proofs.GivenSteps.{given_input}
use Rattle.shim_log.proofs.RecorderLaws.{adds_ok, adds_follow, stops_follow}
use Rattle.shim_log.proofs.AskingCalls.{answer_asks, clock_kept, stop_asks, stop_asks_nothing}
use Rattle.dos_world.specs.declared.Question.TheVariants.{Input}
use Rattle.log_text.specs.EntriesText.{GrowsBy}
use Rattle.shim_log.specs.Room.{longest}
use Rattle.shim_log.proofs.LedgerLaws.{input_grows}
use Rattle.shim_log.proofs.recorder.RecorderShim.input.Goals as goal

pub returns-in-Ok-clause-ok : goal.returns-in-Ok-clause-ok
returns-in-Ok-clause-ok g c = adds_ok c.args.self.now.ledger c.make_room.new.self _ _ _ _
    c.requires.told c.in_ok-make_room.ensures.same c.add_input.ensures

pub returns-in-Ok-clause-follows : goal.returns-in-Ok-clause-follows
returns-in-Ok-clause-follows g c = (
  refl,
  adds_follow _ _ _ _ _ _ _ _ _ _ c.requires.told c.in_ok-make_room.ensures.same
      c.add_input.ensures c.input.ensures.cause.later
      (given_input _ _ _ _ _ _ _ _ _ c.in-Ok.ensures.told_ok c.in-Ok.ensures.bytes),
  answer_asks _ _ _ _ _ _ _ (clock_kept c.args.self.now.ledger _ _ _ _ _
      c.in_ok-make_room.ensures.same
      c.add_input.ensures)
      (adds_ok c.args.self.now.ledger c.make_room.new.self _ _ _ _ c.requires.told
      c.in_ok-make_room.ensures.same c.add_input.ensures) c.input.ensures.asked
      c.in-Ok.ensures.steady,
)

pub returns-in-Err-clause-follows : goal.returns-in-Err-clause-follows
returns-in-Err-clause-follows g c = (
  refl,
  stops_follow c.args.self.now.ledger c.make_room.new.self c.stop.new.self
      c.make_room.new.self.room _ _ _ _ _ _ c.in_ok-make_room.ensures.same c.stop.ensures.after
      c.in-Err.ensures.told_err c.input.ensures.cause.later (λ _. c.in-Err.ensures.cause.failed),
  stop_asks c.args.self.now.ledger c.make_room.new.self c.stop.new.self
      c.make_room.new.self.room _ _ _ _ _ _ c.in_ok-make_room.ensures.same c.stop.ensures.after
      (c.input.ensures.asked
      ∙ ap (λ (n : ℕ). g.H.Host.asked c.args.self.now.host.now ++ Bytes n ∷ [])
      (omega (arith, c.from.ensures))) (λ none. absurd none),
)

pub returns-in_err-make_room-clause-follows : goal.returns-in_err-make_room-clause-follows
returns-in_err-make_room-clause-follows g c = (
  refl,
  stops_follow c.args.self.now.ledger
      (record c.args.self.now.ledger { room = c.make_room.new.self.room }) c.make_room.new.self
      c.make_room.new.self.room _ _ _ _ _ _ refl c.in_err-make_room.ensures.err.1 refl (omega arith)
      (λ e. absurd (c.in_err-make_room.ensures.err.0 e)),
  stop_asks_nothing c.args.self.now.ledger
      (record c.args.self.now.ledger { room = c.make_room.new.self.room }) c.make_room.new.self
      c.make_room.new.self.room _ _ _ _ refl c.in_err-make_room.ensures.err.1
      c.in_err-make_room.ensures.err.0,
)

pub make_room-requires-clause-grows : goal.make_room-requires-clause-grows
make_room-requires-clause-grows g c =
    subst (λ (n : ℕ). GrowsBy c.args.self.now.ledger.entries
    (longest c.args.self.now.ledger.posts (Input c.args.round c.args.tid c.from.result)) n)
    (omega (arith, c.from.ensures, c.from-2.ensures))
    (input_grows c.args.self.now.ledger.posts c.args.self.now.ledger.entries c.args.round
    c.args.tid c.from.result)
