use Rattle.std.proofs.Common.{sym, subst}
use Rattle.dos_io.specs.Shims.{HasNoEnd}
use Rattle.logged_runs.proofs.Replays.{from_first, nothing_told, same_log}
use Rattle.traced_logs.proofs.Stops.{lines_stay, no_trace_stop, this_trace_stop, traced_ahead}
use Rattle.traced_logs.proofs.Stops.{traced_only, traced_until, traced_whole}
use Rattle.traced_logs.proofs.tracing.trace_log.Goals as goal

pub run_traced-requires-clause-running : goal.run_traced-requires-clause-running
run_traced-requires-clause-running g c = λ κs alive. c.requires

pub run_traced-requires-clause-told : goal.run_traced-requires-clause-told
run_traced-requires-clause-told g c = λ κs alive.
    subst HasNoEnd (sym (nothing_told _ _ c.new-shim.ensures)) tt

pub returns-in-Ok : goal.returns-in-Ok
returns-in-Ok g c =
    let run = c.in-Ok.ensures in
    record {
      ran = λ images opened. traced_whole c.args.kernel.now c.run_traced.new.kernel
          c.new-shim.result c.run_traced.new.shim c.args.log (nothing_told _ _ c.new-shim.ensures)
          (same_log _ _ _ c.new-shim.ensures run.follows)
          (from_first _ _ _ c.new-shim.ensures run.follows) _ _ _ _ _ images opened c.in-Ok.ending
          c.len-exchanges.ensures.fits run.runs run.traces;
      misfit = λ found is. absurd (no_trace_stop _ _ is);
      cut = λ is. absurd (no_trace_stop _ _ is);
      memory = λ is. absurd (no_trace_stop _ _ is);
      rested = λ is. absurd (no_trace_stop _ _ is);
      only = tt;
      cause = tt;
      later = run.later;
      steady = λ _. run.steady (no_trace_stop _ _);
      fixed = run.fixed;
    }

pub returns : goal.returns
returns g c =
    let run = c.in-Err.ensures in
    let told = nothing_told _ _ c.new-shim.ensures in
    let log = same_log _ _ _ c.new-shim.ensures run.follows in
    let first = from_first _ _ _ c.new-shim.ensures run.follows in
    let k = c.args.kernel.now in
    let k' = c.run_traced.new.kernel in
    let s = c.new-shim.result in
    let p = c.run_traced.new.shim in
    let l = g.T.Sink.told c.args.lines.now in
    let l' = g.T.Sink.told c.run_traced.new.lines in
    let t = g.W.Workers.tally c.args.workers.now in
    let t' = g.W.Workers.tally c.run_traced.new.workers in
    record {
      ran = tt;
      misfit = λ found is images opened. traced_until k k' s p c.args.log told log first l l'
          k'.failed t t' images opened c.in-Err.stop found (this_trace_stop _ _ is)
          c.look.ensures run.runs run.traces;
      cut = λ is images opened. traced_ahead k k' s p c.args.log told log first l l' k'.failed t t'
          images opened c.in-Err.stop (this_trace_stop _ _ is) run.traces run.counted;
      memory = λ is. lines_stay k k' _ _ _ _ c.in-Err.stop (this_trace_stop _ _ is) run.traces;
      rested = run.rested;
      only = traced_only k k' s p c.args.log told log first l l' k'.failed t t' c.in-Err.stop
          c.look.ensures run.runs;
      cause = run.cause;
      later = run.later;
      steady = run.steady;
      fixed = run.fixed;
    }
