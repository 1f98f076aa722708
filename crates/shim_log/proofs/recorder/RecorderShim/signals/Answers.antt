use Rattle.std.proofs.Common.{List, subst, ◌∙◌, arith, refl, sym, ap}
use Rattle.std.proofs.lemmas.List.{append-nil}
use Rattle.dos_world.specs.declared.Post.{Post}
use Rattle.dos_io.specs.declared.exchange.Exchange.TheVariants.{Signals}
use Rattle.dos_io.proofs.GivenSteps.{given_posts}
use Rattle.dos_io.specs.Given.{posts_in}
use Rattle.shim_log.specs.Ledger.{LedgerState}
use Rattle.shim_log.proofs.RecorderLaws.{stops_follow, adds_ok, adds_follow}
use Rattle.shim_log.proofs.AskingCalls.{answer_asks, clock_kept, stop_asks_nothing}
use Rattle.log_text.specs.EntriesText.{GrowsBy}
use Rattle.log_text.proofs.GrowingLaws.{fits_grown}
use Rattle.shim_log.proofs.recorder.RecorderShim.signals.Goals as goal

pub returns-clause-ok : goal.returns-clause-ok
returns-clause-ok g c = adds_ok c.args.self.now.ledger c.make_room.new.self _ _ _ _ c.requires
    c.in_ok-make_room.ensures.same c.add_signals.ensures

pub returns-clause-follows : goal.returns-clause-follows
returns-clause-follows g c = (
  refl,
  adds_follow _ _ _ _ _ _ _ _ _ _ c.requires c.in_ok-make_room.ensures.same c.add_signals.ensures
      (omega arith)
      (given_posts _ _ _ _ _ _ (c.posts_of.ensures
      ∙ ap (λ (b : LedgerState). posts_in b.posts c.args.round)
      (sym c.in_ok-make_room.ensures.same))),
  answer_asks _ _ _ _ _ _ _ (clock_kept c.args.self.now.ledger _ _ _ _ _
      c.in_ok-make_room.ensures.same
      c.add_signals.ensures)
      (adds_ok c.args.self.now.ledger c.make_room.new.self _ _ _ _ c.requires
      c.in_ok-make_room.ensures.same c.add_signals.ensures) (sym (append-nil _)) refl,
)

pub returns-in_err-make_room-clause-follows : goal.returns-in_err-make_room-clause-follows
returns-in_err-make_room-clause-follows g c = (
  refl,
  stops_follow c.args.self.now.ledger
      (record c.args.self.now.ledger { room = c.make_room.new.self.room }) c.make_room.new.self
      c.make_room.new.self.room _ _ _ _ _ _ refl c.in_err-make_room.ensures.err.1 refl (omega arith)
      (λ e. absurd (c.in_err-make_room.ensures.err.0 e)),
  stop_asks_nothing c.args.self.now.ledger
      (record c.args.self.now.ledger { room = c.make_room.new.self.room }) c.make_room.new.self
      c.make_room.new.self.room _ _ _ _ refl c.in_err-make_room.ensures.err.1
      c.in_err-make_room.ensures.err.0,
)

-- with the round's posts, which are its longest answer
pub make_room-requires-clause-grows : goal.make_room-requires-clause-grows
make_room-requires-clause-grows g c =
    subst (λ (posts : List Post). GrowsBy c.args.self.now.ledger.entries
    (Signals c.args.round posts) c.signals_bytes-bytes.result) c.posts_of.ensures
    c.signals_bytes-bytes.ensures.value

pub add_signals-requires-clause-memory : goal.add_signals-requires-clause-memory
add_signals-requires-clause-memory g c =
    rw c.in_ok-make_room.ensures.same
    (fits_grown _ _ _ _ c.signals_bytes-bytes.ensures.value c.in_ok-make_room.ensures.room)
