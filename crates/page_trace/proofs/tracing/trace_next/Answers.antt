use Rattle.std.proofs.Common.{◌∙◌, ap, le_refl, length, refl, subst, sym}
use Rattle.std.specs.Prelude.{is_err}
use Rattle.dos_world.specs.declared.Config.{Config}
use Rattle.kernel_calls.specs.declared.state.State.{State}
use Rattle.group_rounds.specs.Kernels.{Held, IsBetweenRounds, state_marked}
use Rattle.group_rounds.proofs.Marked.{between-marked}
use Rattle.dpg_run.proofs.RoundsRun.{between_here}
use Rattle.page_trace.specs.Tracing.{RoundTraces}
use Rattle.page_trace.proofs.Marked.{next_marked, some_marked}
use Rattle.page_trace.proofs.Rounds.{line_cause, line_steady, round_put, still_running}
use Rattle.page_trace.proofs.tracing.trace_next.Goals as goal

pub run_next-requires-clause-running : goal.run_next-requires-clause-running
run_next-requires-clause-running g c = λ κs alive. c.requires.running

pub run_next-requires-clause-limit : goal.run_next-requires-clause-limit
run_next-requires-clause-limit g c = λ κs alive. c.requires.limit

pub run_next-requires-clause-told : goal.run_next-requires-clause-told
run_next-requires-clause-told g c = λ κs alive. c.requires.told

pub put_round-requires : goal.put_round-requires
put_round-requires g c =
    let running = c.run_next.ensures.failed ∙ ap is_err c.in-Ok.is in
    ap length (c.run_next.ensures.marked ∙ c.requires.marked)
    ∙ (between_here c.args.kernel.now.state
    c.state.result.now c.args.kernel.now.config c.state.ensures.state
    (c.state.ensures.sound c.requires.running)).frames
    ∙ ap (λ (k : Config). k.frames) (sym c.run_next.ensures.config)
    ∙ sym (c.run_next.ensures.sound running).frames

pub returns-in-Ok : goal.returns-in-Ok
returns-in-Ok g c =
    let next = c.in-Ok.ensures in
    let put = c.put_round.ensures in
    let running = c.run_next.ensures.failed ∙ ap is_err c.in-Ok.is in
    let config = c.args.kernel.now.config in
    let s = c.args.kernel.now.state in
    let s' = c.run_next.new.kernel.state in
    let marked = c.put_round.new.kernel.state.frames.marked in
    let b = g.B.Border.state c.args.border.now in
    let b' = g.B.Border.state c.run_next.new.border in
    let failed = ap (λ (k : Held). k.failed) put.kernel in
    record {
      traces = subst (λ (k : Held). RoundTraces config c.put_round.result s b k.state b'
          (g.T.Sink.told c.args.lines.now) (g.T.Sink.told c.put_round.new.lines)
          (g.W.Workers.tally c.args.workers.now) (g.W.Workers.tally c.run_next.new.workers))
          (sym put.kernel)
          (round_put config c.in-Ok.ended c.put_round.result s (state_marked s' marked) b b' _ _ _ _
          put.same put.only c.state.result.now.round s'.frames.marked
          (ap (λ (x : State). x.round) c.state.ensures.state)
          (c.run_next.ensures.marked ∙ c.requires.marked) put.ok put.err
          (next_marked config c.in-Ok.ended s s' marked b b' next.plays)
          (some_marked config c.in-Ok.ended s s' marked b b' _ _ next.some) next.round next.told);
      marked = put.marked;
      cause = line_cause c.put_round.result _ _ put.only put.cause;
      later = put.cause.later;
      steady = line_steady c.put_round.result _ _ put.only put.steady;
      sound = λ kept. subst (λ (k : Held). IsBetweenRounds k.state k.config) (sym put.kernel)
          (between-marked s' marked c.run_next.new.kernel.config
          (c.run_next.ensures.sound (sym failed ∙ kept)));
      config = ap (λ (k : Held). k.config) put.kernel ∙ c.run_next.ensures.config;
      failed = still_running c.put_round.result c.put_round.new.kernel.failed put.only
          (failed ∙ running);
      follows = c.run_next.ensures.follows;
      fixed = c.run_next.ensures.fixed;
    }

pub returns-in-Err : goal.returns-in-Err
returns-in-Err g c =
    let next = c.in-Err.ensures in
    record {
      traces = record {
        plays = next.plays;
        some = next.some;
        uncounted = next.uncounted;
        lines_stay = refl;
      };
      marked = tt;
      cause = tt;
      later = le_refl _;
      steady = λ _. refl;
      sound = c.run_next.ensures.sound;
      config = c.run_next.ensures.config;
      failed = c.run_next.ensures.failed ∙ ap is_err c.in-Err.is;
      follows = c.run_next.ensures.follows;
      fixed = c.run_next.ensures.fixed;
    }
