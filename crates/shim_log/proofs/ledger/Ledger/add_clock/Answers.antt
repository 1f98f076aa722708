use Rattle.std.proofs.Common.{◌≤◌, ◌∷◌, [], length, sym, subst, arith}
use Rattle.std.proofs.lemmas.List.{length-append}
use Rattle.dos_world.specs.declared.Question.TheVariants.{Clock}
use Rattle.dos_io.specs.Given.{readings}
use Rattle.dos_io.proofs.GivenLaws.{readings_append}
use Rattle.shim_log.specs.Room.{NoRoom}
use Rattle.shim_log.specs.Ledger.{LedgerState}
use Rattle.shim_log.proofs.LedgerLaws.{room_few, clock_added}
use Rattle.shim_log.proofs.RecorderLaws.{readings_short}
use Rattle.shim_log.proofs.ledger.Ledger.add_clock.Goals as goal

pub push_clock-requires-clause-few : goal.push_clock-requires-clause-few
push_clock-requires-clause-few c =
    room_few _ c.self.inside.posts.items _ (Clock c.args.round c.args.tid) tt
    (subst (λ (b : LedgerState). NoRoom b.header b.posts b.entries
    (Clock c.args.round c.args.tid) → ⊥) (sym c.self.view_is) c.requires.room)

pub overflow_add-self : goal.overflow_add-self
overflow_add-self c =
    let few : length c.self.inside.entries.list ≤ 16777216 = c.self.invariant.0.few in
    omega (arith, few, readings_short c.self.inside.entries.list, c.self.invariant.2)

pub invariant_of-self : goal.invariant_of-self
invariant_of-self c =
    let room = subst (λ (b : LedgerState). NoRoom b.header b.posts b.entries
    (Clock c.args.round c.args.tid) → ⊥) (sym c.self.view_is) c.requires.room in
    let is = clock_added _ c.args.round c.args.tid c.args.reading c.push_clock.new.self.room
    c.self.invariant.0
    (record { round_fits = omega arith; tid_fits = omega arith; reading = omega arith }) room in (
      rw c.push_clock.ensures is,
      c.self.invariant.1,
      rw
          (c.push_clock.ensures, readings_append, c.self.invariant.2)
          (omega (
            arith,
            length-append (readings c.self.inside.entries.list)
                (c.args.reading ∷ []),
          )),
    )
