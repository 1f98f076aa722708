use Rattle.std.proofs.Common.{List, ap, arith, subst, sym, ◌∙◌}
use Rattle.hand_board.specs.Seating.{Seating}
use Rattle.staying_workers.specs.Busy.{IsWorkerAt}
use Rattle.staying_workers.specs.declared.held.Held.{Held}
use Rattle.staying_workers.proofs.AtBoard.{at_board}
use Rattle.staying_workers.proofs.rounds.send_one.Goals as goal

pub taken_apart-lender-requires : goal.taken_apart-lender-requires
taken_apart-lender-requires g c =
    let lent = c.lend-lender.ensures in
    let more = ap (λ l. l.out) lent.0 in record {
      term = ap (λ l. l.term) (c.in-Err.ensures.err.1 ∙ c.halved-ours.ensures.order.2) ∙ lent.2
          ∙ sym (ap (λ l. l.term) lent.0);
      out = (omega (arith, more), omega (arith, more, c.requires.lender.1));
    }

pub join-requires : goal.join-requires
join-requires g c =
    let h = c.halved-ours.ensures in
    let seat = c.taken_apart-lender.ensures.seat in record {
      left = h.seat.0 ∙ c.requires.board;
      right = ap (λ (s : Seating Held). s.board) seat ∙ c.in-Err.ensures.err.0.0 ∙ h.order.0
          ∙ c.requires.board;
      hands = (h.seat.2, ap (λ (s : Seating Held). s.hand) seat ∙ c.in-Err.order.seated.1);
    }

pub returns-in-Ok-clause-some : goal.returns-in-Ok-clause-some
returns-in-Ok-clause-some g c =
    let h = c.halved-ours.ensures in
    let order = c.halved-ours.result.1 in
    let lent = c.lend-lender.ensures in
    let w = c.in-Ok.worker in
    let at = at_board w order c.in-Ok.ensures.ok in
    let loan = ap (λ l. l.term) h.order.2 ∙ lent.2 in
    let mine = at.1 in
    let cut = h.share in
    let more = ap (λ l. l.out) lent.0 in (
      subst (λ t. IsWorkerAt t c.args.seat.board c.args.seat.opened w) loan
          (subst (λ b. IsWorkerAt order.board.term b c.args.seat.opened w) h.order.0
          (subst (λ (o : List Held). IsWorkerAt order.board.term order.seat.board o w) h.order.1
          at.0)),
      omega (arith, mine, cut),
      omega (arith, more),
    )

pub returns-in-Err-clause-none : goal.returns-in-Err-clause-none
returns-in-Err-clause-none g c =
    let joined = ap (λ (s : Seating Held). s.share) c.join.ensures in
    let other = ap (λ (s : Seating Held). s.share) c.taken_apart-lender.ensures.seat in
    let same = c.in-Err.ensures.err.0.2 in
    let cut = c.halved-ours.ensures.share in
    let back = c.taken_apart-lender.ensures.lender.2 in
    let more = ap (λ l. l.out) c.lend-lender.ensures.0 in
    (omega (arith, joined, other, same, cut), omega (arith, back, more))
