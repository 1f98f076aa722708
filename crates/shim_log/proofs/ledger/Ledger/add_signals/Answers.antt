use Rattle.std.proofs.Common.{◌≡◌, length, sym, subst, ap, arith}
use Rattle.std.proofs.Common.{append-nil}
use Rattle.dos_world.specs.declared.Question.TheVariants.{Signals}
use Rattle.dos_io.specs.Given.{readings, posts_in}
use Rattle.dos_io.proofs.GivenLaws.{readings_append}
use Rattle.shim_log.specs.Room.{NoRoom}
use Rattle.shim_log.specs.Ledger.{LedgerState}
use Rattle.shim_log.proofs.LedgerLaws.{room_few, signals_added}
use Rattle.shim_log.proofs.ledger.Ledger.add_signals.Goals as goal

pub push_signals-requires-clause-few : goal.push_signals-requires-clause-few
push_signals-requires-clause-few c =
    room_few _ _ _ (Signals c.args.round) tt
    (subst (λ (b : LedgerState). NoRoom b.header b.posts b.entries (Signals c.args.round) → ⊥)
    (sym c.self.view_is) c.requires.room)

pub invariant_of-self : goal.invariant_of-self
invariant_of-self c =
    let room = subst (λ (b : LedgerState). NoRoom b.header b.posts b.entries
    (Signals c.args.round) → ⊥) (sym c.self.view_is) c.requires.room in
    let same = subst (λ (b : LedgerState). c.args.list.now ≡ posts_in b.posts c.args.round)
    (sym c.self.view_is) c.requires.posts in
    let is = signals_added _ c.args.round c.args.list.now c.push_signals.new.self.room
    c.self.invariant.0 (omega arith)
    (omega (arith, c.len-len.ensures.few, c.len-len.ensures.value)) c.len-len.ensures.posts same
    room in (
      rw c.push_signals.ensures is,
      c.self.invariant.1,
      rw
          (c.push_signals.ensures, readings_append, c.self.invariant.2)
          (ap length (sym (append-nil (readings c.self.inside.entries.list)))),
    )
