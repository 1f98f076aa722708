use Rattle.std.proofs.Common.{refl}
use Rattle.page_trace.specs.Tracing.{traced_at}
use Rattle.page_trace.proofs.Rounds.{end_traces}
use Rattle.page_trace.proofs.Traced.{traced_all}
use Rattle.page_trace.proofs.tracing.end_run.Goals as goal

pub tell_end-requires : goal.tell_end-requires
tell_end-requires g c = c.requires

pub returns-in-Ok : goal.returns-in-Ok
returns-in-Ok g c =
    let b = g.B.Border.state c.args.border.now in
    let b' = g.B.Border.state c.tell_end.new.border in
    let more = c.in-Ok.ensures.more in
    record {
      runs = record {
        runs = c.in-Ok.ensures.runs;
        traces = λ config old first tally tally_after running plays start lines all.
            traced_all config old start (traced_at b lines) (traced_at b' lines) more.0 all more.1
            refl;
        stops = tt;
      };
      follows = c.tell_end.ensures.follows;
    }

pub returns-in-Err : goal.returns-in-Err
returns-in-Err g c =
    let b = g.B.Border.state c.args.border.now in
    let b' = g.B.Border.state c.tell_end.new.border in
    let more = c.in-Err.ensures.more in
    record {
      runs = record {
        runs = c.in-Err.ensures.runs;
        traces = λ config old first tally tally_after running plays start lines all.
            end_traces config old c.args.kernel.now.state start (traced_at b' lines) c.in-Err.stop
            b'.shim.asked c.args.kernel.now.failed running
            (c.in-Err.ensures.runs config old first tally tally_after running plays).failed
            (traced_all config old start (traced_at b lines) (traced_at b' lines) more.0 all more.1
            refl);
        stops = tt;
      };
      follows = c.tell_end.ensures.follows;
    }
