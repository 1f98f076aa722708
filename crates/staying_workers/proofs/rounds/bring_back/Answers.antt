use Rattle.std.proofs.Common.{ap, sym, ◌∙◌}
use Rattle.hand_board.specs.Seating.{Seating}
use Rattle.staying_workers.specs.declared.held.Held.{Held}
use Rattle.staying_workers.proofs.AtBoard.{order_at, order_is}
use Rattle.staying_workers.proofs.rounds.bring_back.Goals as goal

pub bring_back-order-requires : goal.bring_back-order-requires
bring_back-order-requires g c =
    order_at c.args.lender.term c.args.at.now.id c.args.opened.now.opened c.args.worker
    c.requires.at

pub taken_apart-requires : goal.taken_apart-requires
taken_apart-requires g c =
    let x = c.bring_back-order.ensures.order in
    let is = order_is c.args.lender.term c.args.at.now.id c.args.opened.now.opened c.args.worker
    c.requires.at x.0 x.1 in
    record { term = ap (λ l. l.term) x.2.1 ∙ is.0; out = c.requires.out }

pub returns-clause-seat : goal.returns-clause-seat
returns-clause-seat g c =
    let x = c.bring_back-order.ensures.order in
    let is = order_is c.args.lender.term c.args.at.now.id c.args.opened.now.opened c.args.worker
    c.requires.at x.0 x.1 in
    let seat = c.taken_apart.ensures.seat in (
      ap (λ (s : Seating Held). s.board) seat ∙ x.2.0.0 ∙ is.1,
      ap (λ (s : Seating Held). s.hand) seat ∙ c.bring_back-order.result.0.seated.1,
    )

pub returns-clause-share : goal.returns-clause-share
returns-clause-share g c =
    let x = c.bring_back-order.ensures.order in
    let is = order_is c.args.lender.term c.args.at.now.id c.args.opened.now.opened c.args.worker
    c.requires.at x.0 x.1 in
    ap (λ (s : Seating Held). s.share) c.taken_apart.ensures.seat ∙ x.2.0.2 ∙ sym is.3
