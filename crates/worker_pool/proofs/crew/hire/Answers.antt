use Rattle.std.proofs.Common.{◌≡◌, ◌+◌, ◌-◌, ap, sym, ◌∙◌, subst, arith}
use Rattle.std.specs.Vec.Iter.{into_iter_items}
use Rattle.std.proofs.lemmas.List.Elements.{All-same, All-push}
use Rattle.crossbeam_deque.specs.Handles.{worker_flavor}
use Rattle.worker_pool.specs.declared.crew.Worker.{Worker}
use Rattle.worker_pool.specs.Crews.{CanWork}
use Rattle.worker_pool.specs.Parts.{AreReady}
use Rattle.worker_pool.proofs.Hired.{halved, All-next, shares-more}
use Rattle.worker_pool.proofs.crew.hire.Goals as goal

pub split-left-requires-clause-share : goal.split-left-requires-clause-share
split-left-requires-clause-share g c =
    (halved (c.args.workers - (c.loop-number.number + 1)) c.loop-number.seat.share
    (omega (arith, c.loop-number-test.true)) c.loop-number.invariant.3).0

pub loop-number-preserved : goal.loop-number-preserved
loop-number-preserved g c =
    let W : Type 0 = Worker g.row.B.Denot g.row.T.Denot in
    let Can : W → Type 0 = CanWork g.T.Part.ready g.B.Bound.bound c.args.board.now in
    let was = c.loop-number.invariant in
    let crew = c.loop-number.crew.items in
    let pushed = c.push_reserved.ensures in
    let left = c.split-left.ensures.first in
    let other = c.split-left.ensures.second in
    let opened = ap (λ s. s.opened) other ∙ was.1 in
    let half = halved (c.args.workers - (c.loop-number.number + 1)) c.loop-number.seat.share
    (omega (arith, c.loop-number-test.true)) was.3 in
    let own = All-next (λ w. worker_flavor w ≡ 0) (into_iter_items c.loop-number.owners)
    (into_iter_items c.next.new.self) c.next.result c.next.ensures.items was.8 in
    let worker : W = record {
      number = c.loop-number.number;
      seat = c.split-left.result.1;
      own = c.next.result;
    } in
    let can : Can worker = record {
      seated = ap (λ s. s.board) other ∙ (was.0 ∙ c.requires.board);
      free = ap (λ s. s.hand) other;
      startable = subst (AreReady g.T.Part.ready) (sym opened) c.requires.ready;
      fifo = own.0;
      numbers = c.requires.bound;
    } in (
      ap (λ s. s.board) left ∙ was.0,
      ap (λ s. s.opened) left ∙ was.1,
      ap (λ s. s.hand) left ∙ was.2,
      omega (arith, ap (λ s. s.share) left, half.1),
      omega (
        arith,
        ap (λ s. s.share) left,
        ap (λ s. s.share) other,
        shares-more crew worker pushed.items,
        was.4,
      ),
      All-same Can c.push_reserved.new.self.items _ pushed.items
          (All-push Can crew worker was.5 can),
      omega (arith, pushed.len, was.6),
      omega (arith, pushed.capacity, was.7),
      own.1,
    )
