use Rattle.std.proofs.Common.{length, sym, subst, ap, arith, append-nil}
use Rattle.dos_world.specs.declared.Question.TheVariants.{Input}
use Rattle.dos_io.specs.Given.{readings}
use Rattle.dos_io.proofs.GivenLaws.{readings_append}
use Rattle.shim_log.specs.Room.{NoRoom}
use Rattle.log_text.specs.Ranges.{FitsInput}
use Rattle.shim_log.specs.Ledger.{LedgerState}
use Rattle.shim_log.proofs.LedgerLaws.{room_few, input_added}
use Rattle.shim_log.proofs.ledger.Ledger.add_input.Goals as goal

pub push_input-requires-clause-few : goal.push_input-requires-clause-few
push_input-requires-clause-few c =
    room_few _ c.self.inside.posts.items _ (Input c.args.round c.args.tid c.args.max) tt
    (subst (λ (b : LedgerState). NoRoom b.header b.posts b.entries
    (Input c.args.round c.args.tid c.args.max) → ⊥) (sym c.self.view_is) c.requires.room)

pub invariant_of-self : goal.invariant_of-self
invariant_of-self c =
    let room = subst (λ (b : LedgerState). NoRoom b.header b.posts b.entries
    (Input c.args.round c.args.tid c.args.max) → ⊥) (sym c.self.view_is) c.requires.room in
    let fits : FitsInput c.args.round c.args.tid c.args.max c.args.bytes.now =
    record {
      round_fits = omega arith;
      tid_fits = omega arith;
      max_fits = (c.requires.low, c.requires.high);
      short = c.requires.short;
      bytes_fit = λ i. omega (arith, c.type_inv.bytes i);
    } in
    let is = input_added _ c.args.round c.args.tid c.args.max c.args.bytes.now
    c.push_input.new.self.room c.self.invariant.0 fits room in (
      rw c.push_input.ensures is,
      c.self.invariant.1,
      rw
          (c.push_input.ensures, readings_append, c.self.invariant.2)
          (ap length (sym (append-nil (readings c.self.inside.entries.list)))),
    )
