use Rattle.std.proofs.Common.{refl, sym, ap, subst, ◌∙◌}
use lib.ListN.{get_elem?}
use Rattle.hand_board.specs.Placed.{IsUnderWay}
use Rattle.hand_board.proofs.Steps.{resumes}
use Rattle.hand_board.proofs.Counts.{within}
use Rattle.hand_board.proofs.Sitting.{at_table, has_word, has_share, drawn_full, drawn_lifts}
use Rattle.hand_board.proofs.Sitting.{sits_resumed, sits_same, shows_resumed, shows_same, emptied}
use Rattle.hand_board.proofs.board.Board.resume.Goals as goal

pub compare_exchange-found-requires : goal.compare_exchange-found-requires
compare_exchange-found-requires g c =
    let word = has_word c.args.number c.self.invariant c.self.view_is c.requires.number in (
      at_table c.seat.view_is c.requires.board c.self.view_is,
      word.1,
      resumes _ _ c.self.inside.table.shared.key.value.items _ _ c.args.number _ word.0
          (has_share c.seat.invariant),
    )

pub invariant_of-seat : goal.invariant_of-seat
invariant_of-seat g c =
    let t = (c.compare_exchange-found.ensures.2 c.args.number refl).1 c.if-found-ne3.true in
    sits_same _ _ _ _ _ _ _ c.seat.invariant c.compare_exchange-found.ensures.0 t

pub returns-then-found-ne3-clause-none : goal.returns-then-found-ne3-clause-none
returns-then-found-ne3-clause-none g c =
    let t = (c.compare_exchange-found.ensures.2 c.args.number refl).1 c.if-found-ne3.true in
    shows_same _ _ _ _ _ _ _ _ c.seat.view_is c.compare_exchange-found.ensures.0 t

pub lift-requires : goal.lift-requires
lift-requires g c =
    let t = (c.compare_exchange-found.ensures.2 c.args.number refl).0 c.if-found-ne3.false in
    record {
      table = c.compare_exchange-found.ensures.0
          ∙ at_table c.seat.view_is c.requires.board c.self.view_is;
      full = drawn_full _ _ _ c.args.number t.1 t.4;
    }

pub invariant_of-seat-2 : goal.invariant_of-seat-2
invariant_of-seat-2 g c =
    let t = (c.compare_exchange-found.ensures.2 c.args.number refl).0 c.if-found-ne3.false in
    sits_resumed _ _ _ _ _ _ _ c.args.number c.seat.invariant (within _ _ _ t.2)
    (c.lift.ensures.table ∙ c.compare_exchange-found.ensures.0)
    (emptied _ _ _ _ _ _ t.4 c.lift.ensures.seat)

pub returns-clause-some : goal.returns-clause-some
returns-clause-some g c =
    let t = (c.compare_exchange-found.ensures.2 c.args.number refl).0 c.if-found-ne3.false in
    let e = c.seat.view_is in (
      c.lift.ensures.number,
      (
        t.0,
        ap (λ z. get_elem? z.opened c.args.number) (sym e) ∙ t.2,
        subst (IsUnderWay g.T.Part.ready g.T.Part.ends g.T.Part.finished t.0)
            (drawn_lifts _ _ _ c.args.number t.1 _ t.4 c.lift.ensures.pack) t.3,
      ),
      shows_resumed _ _ _ _ _ _ _ _ c.args.number e
          (c.lift.ensures.table ∙ c.compare_exchange-found.ensures.0)
          (emptied _ _ _ _ _ _ t.4 c.lift.ensures.seat),
    )
