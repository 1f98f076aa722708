use Rattle.std.proofs.Common.{refl, sym, ap, ◌∙◌}
use mathlib.Core.Option.{some}
use lib.ListN.{get_elem?}
use Rattle.hand_board.specs.Placed.{times}
use Rattle.hand_board.proofs.Steps.{claims}
use Rattle.hand_board.proofs.Counts.{within}
use Rattle.hand_board.proofs.Sitting.{at_table, has_word, has_share, drawn_full, drawn_lifts}
use Rattle.hand_board.proofs.Sitting.{sits_found, sits_drawn, shows_found, shows_drawn, emptied}
use Rattle.hand_board.proofs.board.Board.claim.Goals as goal

pub compare_exchange-found-requires : goal.compare_exchange-found-requires
compare_exchange-found-requires g c =
    let word = has_word c.args.number c.self.invariant c.self.view_is c.requires.number in (
      at_table c.seat.view_is c.requires.board c.self.view_is,
      word.1,
      claims _ _ c.self.inside.table.shared.key.value.items _ _ c.args.number _ word.0
          (has_share c.seat.invariant),
    )

pub invariant_of-seat : goal.invariant_of-seat
invariant_of-seat g c =
    let t = (c.compare_exchange-found.ensures.2 c.args.number refl).1
    (λ e. absurd (c.if-found-ne0.true e)) in
    sits_found _ _ _ _ _ _ _ c.args.number c.seat.invariant c.compare_exchange-found.ensures.0 t

pub returns-then-found-ne0-clause-none : goal.returns-then-found-ne0-clause-none
returns-then-found-ne0-clause-none g c =
    let t = (c.compare_exchange-found.ensures.2 c.args.number refl).1
    (λ e. absurd (c.if-found-ne0.true e)) in
    shows_found _ _ _ _ _ _ _ _ c.args.number c.seat.view_is c.compare_exchange-found.ensures.0 t

pub lift-requires : goal.lift-requires
lift-requires g c =
    let t = (c.compare_exchange-found.ensures.2 c.args.number refl).0 c.if-found-ne0.false in
    record {
      table = c.compare_exchange-found.ensures.0
          ∙ at_table c.seat.view_is c.requires.board c.self.view_is;
      full = drawn_full _ _ _ c.args.number t.0 t.3;
    }

pub invariant_of-seat-2 : goal.invariant_of-seat-2
invariant_of-seat-2 g c =
    let t = (c.compare_exchange-found.ensures.2 c.args.number refl).0 c.if-found-ne0.false in
    sits_drawn _ _ _ _ _ _ _ c.args.number c.seat.invariant (within _ _ _ t.1)
    (c.lift.ensures.table ∙ c.compare_exchange-found.ensures.0)
    (emptied _ _ _ _ _ _ t.3 c.lift.ensures.seat)

pub returns-clause-some : goal.returns-clause-some
returns-clause-some g c =
    let t = (c.compare_exchange-found.ensures.2 c.args.number refl).0 c.if-found-ne0.false in
    let e = c.seat.view_is in (
      c.lift.ensures.number,
      ap (λ z. get_elem? z.opened c.args.number) (sym e) ∙ t.1
          ∙ ap some (drawn_lifts _ _ _ c.args.number t.0 _ t.3 c.lift.ensures.pack),
      ap (λ z. times c.args.number z.found) (sym e) ∙ t.2,
      shows_drawn _ _ _ _ _ _ _ _ c.args.number e
          (c.lift.ensures.table ∙ c.compare_exchange-found.ensures.0)
          (emptied _ _ _ _ _ _ t.3 c.lift.ensures.seat),
    )
