use Rattle.std.proofs.Common.{◌||◌, ℕ, List, Some, ap, sum_by, sym, subst, arith, ◌∙◌}
use Rattle.std.proofs.lemmas.List.Elements.{All-pop}
use Rattle.std.proofs.lemmas.List.Sums.{sum_by-append}
use Rattle.hand_board.specs.Seating.{Seating}
use Rattle.staying_workers.specs.Busy.{IsWorkerAt, share_out}
use Rattle.staying_workers.specs.declared.held.Held.{Held}
use Rattle.staying_workers.specs.declared.orders.PackOrder.{PackOrder}
use Rattle.order_place.specs.declared.worker.Worker.{Worker}
use Rattle.staying_workers.proofs.rounds.gather.Goals as goal

abbrev sum_by_out : (G : Type 0) → List (Worker (PackOrder G)) → ℕ
sum_by_out G ws = sum_by (share_out {G = G}) ws

pub bring_back-rest-requires : goal.bring_back-rest-requires
bring_back-rest-requires g c =
    let inv = c.loop-worker.invariant in
    let w = c.in-Some.worker in
    let term = c.args.lender.term in
    let popped = All-pop (IsWorkerAt term c.args.seat.board c.args.seat.opened)
    c.loop-worker.busy.items
    c.pop.new.self.items (Some w) c.in-Some.ensures.items inv.4 in
    let len = c.in-Some.ensures.len in
    record {
      at = subst (λ t. IsWorkerAt t c.args.at.now.id c.loop-worker.seat.opened w) (sym inv.7)
          (subst (λ b. IsWorkerAt term b c.loop-worker.seat.opened w) c.requires.board
          (subst (λ (o : List Held). IsWorkerAt term c.args.seat.board o w) (sym inv.3) popped.1));
      out = (omega (arith, inv.8), omega (arith, inv.8, inv.9));
    }

pub loop-worker-preserved : goal.loop-worker-preserved
loop-worker-preserved g c =
    let inv = c.loop-worker.invariant in
    let w = c.in-Some.worker in
    let e = c.join-seat.ensures in
    let popped = All-pop (IsWorkerAt c.args.lender.term c.args.seat.board c.args.seat.opened)
    c.loop-worker.busy.items c.pop.new.self.items (Some w) c.in-Some.ensures.items inv.4 in
    let share = ap (λ (s : Seating Held). s.share) e in
    let back = c.bring_back-rest.ensures.share in
    let lender = c.bring_back-rest.ensures.lender in
    let len = c.in-Some.ensures.len in
    let sum = ap (sum_by_out g.row.G.Denot) c.in-Some.ensures.items
    ∙ sum_by-append share_out c.pop.new.self.items _ in
    let all = inv.5 in (
      ap (λ (s : Seating Held). s.board) e ∙ inv.0,
      ap (λ (s : Seating Held). s.hand) e ∙ inv.1,
      ap (λ (s : Seating Held). s.ended) e
          ∙ ap (λ b. b || c.bring_back-rest.result.1.ended) inv.2,
      ap (λ (s : Seating Held). s.opened) e ∙ inv.3,
      popped.0,
      omega (arith, share, back, sum, all),
      lender.0 ∙ inv.6,
      lender.1 ∙ inv.7,
      omega (arith, lender.2, inv.8, len),
      omega (arith, inv.9, len),
    )
