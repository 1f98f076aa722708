use Rattle.std.proofs.Common.{◌∙◌}
use Rattle.group_rounds.proofs.SignalLaws.{fits_at, post_next, posted_sound}
use Rattle.group_rounds.proofs.signals.post_all.Goals as goal

pub loop-index-preserved : goal.loop-index-preserved
loop-index-preserved c =
    let fit = fits_at c.args.list.now c.loop-index.index c.at-next.result
    c.len-index-end.ensures.posts c.at-next.ensures in
    record {
      posts = λ q o e. c.loop-index.invariant.posts q o e
          ∙ post_next c.loop-index.state c.post.new.table c.args.list.now c.loop-index.index
          c.at-next.result c.at-next.ensures c.post.ensures q o e;
      sound = posted_sound c.loop-index.state c.post.new.table c.at-next.result.pid
          c.at-next.result.signal c.post.ensures fit.low fit.high c.loop-index.invariant.sound;
      round = record {
        round = c.loop-index.invariant.round.round;
        marked = c.loop-index.invariant.round.marked;
      };
      count = c.loop-index.invariant.count;
    }
