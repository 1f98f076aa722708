use Rattle.std.proofs.Common.{◌≡◌, [], ap, ◌∙◌}
use Rattle.twin_shims.specs.Follower.{ReaderState, reader_told}
use Rattle.twin_runs.proofs.Followers.{all_followed}
use Rattle.twin_runs.proofs.follower.follow_group.Goals as goal

pub returns : goal.returns
returns g c =
    let run = c.run_group-result.ensures in
    let end = c.finish-taken.ensures in
    let fresh : reader_told c.of-shim.result.reader ≡ [] =
    ap reader_told (c.of-shim.ensures ∙ c.requires.begins) in
    record {
      line = end.line ∙ run.follows.line_same
          ∙ ap (λ (r : ReaderState). r.line) c.of-shim.ensures;
      closed = end.closed;
      followed = all_followed c.args.kernel.now c.run_group-result.new.kernel
          c.of-shim.result.reader c.run_group-result.new.shim.reader _ _ _ _ _ _ fresh
          c.finish-taken.result.notes end.more.0 end.more.1 end.closed c.look.ensures.next
          c.look.ensures.stop c.look.ensures.never c.run_group-result.result run.runs run.asks
          run.cut run.causes.shim;
      sinks = run.causes.sinks;
      out_steady = run.out_steady;
      err_steady = run.err_steady;
      out_later = run.causes.out_later;
      err_later = run.causes.err_later;
      fixed = run.fixed;
    }
