use Rattle.std.proofs.Common.{ap, ◌∙◌, arith}
use Rattle.std.proofs.lemmas.List.Elements.{All-same}
use Rattle.worker_pool.specs.Crews.{CanWork, shares}
use Rattle.worker_pool.proofs.Hired.{written-back}
use Rattle.worker_pool.proofs.crew.work_all.Goals as goal

pub dismiss-requires : goal.dismiss-requires
dismiss-requires g c =
    let left = c.hire-left.ensures.left in
    let crew = c.work_each.new.crew in
    let back = written-back c.hire-left.result.1.len crew c.hire-left.result.1.items
    (omega (arith, c.as_mut_slice.ensures.len, c.work_each.auto.crew)) in
    record {
      board = left.0 ∙ c.requires.board;
      free = left.2;
      can = All-same (CanWork g.T.Part.ready g.B.Bound.bound c.args.board.now) _ crew back
          c.work_each.ensures.can;
    }

pub returns : goal.returns
returns g c =
    let left = c.hire-left.ensures.left in
    let crew = c.work_each.new.crew in
    let back = written-back c.hire-left.result.1.len crew c.hire-left.result.1.items
    (omega (arith, c.as_mut_slice.ensures.len, c.work_each.auto.crew)) in
    let gone = c.dismiss.ensures in
    record {
      same = (
        gone.same.0 ∙ left.0,
        gone.same.1 ∙ left.1,
        omega (
          arith,
          gone.share,
          ap shares back,
          c.work_each.ensures.shares,
          ap shares c.as_mut_slice.ensures.value,
          c.hire-left.ensures.share,
        ),
      );
      free = gone.free;
    }
