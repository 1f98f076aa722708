use Rattle.std.proofs.Common.{Some, ap, ◌∙◌, arith}
use Rattle.std.proofs.lemmas.List.Elements.{All-pop}
use Rattle.worker_pool.specs.Crews.{CanWork}
use Rattle.worker_pool.proofs.Hired.{shares-more}
use Rattle.worker_pool.proofs.crew.dismiss.Goals as goal

pub join-seat-requires : goal.join-seat-requires
join-seat-requires g c =
    let was = c.loop-worker.invariant in
    let left = c.seat_of.ensures in
    let can = (All-pop (CanWork g.T.Part.ready g.B.Bound.bound c.args.board.now)
    c.loop-worker.crew.items c.pop.new.self.items (Some c.in-Some.worker) c.in-Some.ensures.items
    was.4).1 in
    record {
      left = was.0 ∙ c.requires.board;
      right = ap (λ s. s.board) left ∙ can.seated;
      hands = (was.2, ap (λ s. s.hand) left ∙ can.free);
    }

pub loop-worker-preserved : goal.loop-worker-preserved
loop-worker-preserved g c =
    let was = c.loop-worker.invariant in
    let joined = c.join-seat.ensures in (
      ap (λ s. s.board) joined ∙ was.0,
      ap (λ s. s.opened) joined ∙ was.1,
      ap (λ s. s.hand) joined ∙ was.2,
      omega (
        arith,
        ap (λ s. s.share) joined,
        ap (λ s. s.share) c.seat_of.ensures,
        shares-more c.pop.new.self.items c.in-Some.worker c.in-Some.ensures.items,
        was.3,
      ),
      (All-pop (CanWork g.T.Part.ready g.B.Bound.bound c.args.board.now) c.loop-worker.crew.items
          c.pop.new.self.items (Some c.in-Some.worker) c.in-Some.ensures.items was.4).0,
    )
