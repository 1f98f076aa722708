use Rattle.std.proofs.Common.{◌∙◌, ap, sym}
use Rattle.std.specs.Prelude.{is_err}
use Rattle.dos_world.specs.Play.{done}
use Rattle.flat_machine.specs.Round.{round_of}
use Rattle.group_rounds.specs.Rounds.{end_in}
use Rattle.kernel_calls.proofs.Playing.{plays_told}
use Rattle.dpg_run.proofs.RoundsRun.{between_here, next_err, next_numbered, next_ok, some_err}
use Rattle.dpg_run.proofs.RoundsRun.{some_ok}
use Rattle.dpg_run.proofs.run.run_next.Goals as goal

pub run_round-requires-clause-running : goal.run_round-requires-clause-running
run_round-requires-clause-running g c = λ κs alive. c.requires.running

pub run_round-requires-clause-limit : goal.run_round-requires-clause-limit
run_round-requires-clause-limit g c = λ κs alive. c.requires.limit

pub run_round-requires-clause-told : goal.run_round-requires-clause-told
run_round-requires-clause-told g c = λ κs alive. c.requires.told

pub returns-in-Ok : goal.returns-in-Ok
returns-in-Ok g c =
    let config = c.args.kernel.now.config in
    let s = c.args.kernel.now.state in
    let s' = c.run_round.new.kernel.state in
    let b = g.B.Border.state c.args.border.now in
    let b' = g.B.Border.state c.run_round.new.border in
    let round = c.in-Ok.ensures.plays in
    let is = sym c.ending_after.ensures in
    record {
      plays = next_ok config s s' b b' c.in-Ok.end c.ending_after.result round.work is
          round.plays.goes;
      some = some_ok config s s' b b' (g.W.Workers.tally c.args.workers.now)
          (g.W.Workers.tally c.run_round.new.workers)
          (between_here c.args.kernel.now.state c.state-state.result.now c.args.kernel.now.config
          c.state-state.ensures.state
          (c.state-state.ensures.sound c.requires.running)).sound.counted.round
          c.requires.limit
          c.in-Ok.end c.ending_after.result round.work is c.in-Ok.ensures.round round.plays.goes
          round.grew;
      limited = λ limit allowed. some_ok (record config { rounds = limit }) s s' b b'
          (g.W.Workers.tally c.args.workers.now) (g.W.Workers.tally c.run_round.new.workers)
          (between_here c.args.kernel.now.state c.state-state.result.now c.args.kernel.now.config
          c.state-state.ensures.state
          (c.state-state.ensures.sound c.requires.running)).sound.counted.round allowed
          c.in-Ok.end c.ending_after.result round.work is c.in-Ok.ensures.round round.plays.goes
          round.grew;
      round = next_numbered s.round s'.round c.in-Ok.end c.ending_after.result is
          c.in-Ok.ensures.round;
      uncounted = tt;
      marked = c.run_round.ensures.marked;
      told = plays_told config.quantum (λ w. round_of config.scheme w)
          (λ w. done (end_in c.in-Ok.end round.work w)) s s' b b' round.plays.goes
          c.requires.told;
      sound = c.run_round.ensures.sound;
      config = c.run_round.ensures.config;
      failed = c.run_round.ensures.failed ∙ ap is_err c.in-Ok.is;
      follows = c.run_round.ensures.follows;
      fixed = c.run_round.ensures.fixed;
    }

pub returns-in-Err : goal.returns-in-Err
returns-in-Err g c =
    let config = c.args.kernel.now.config in
    let s = c.args.kernel.now.state in
    let s' = c.run_round.new.kernel.state in
    let b = g.B.Border.state c.args.border.now in
    let b' = g.B.Border.state c.run_round.new.border in
    let round = c.in-Err.ensures.plays in
    record {
      plays = next_err config s s' b b' c.in-Err.stop round.work round.plays;
      some = some_err config s s' b b' (g.W.Workers.tally c.args.workers.now)
          (g.W.Workers.tally c.run_round.new.workers)
          (between_here c.args.kernel.now.state c.state-state.result.now c.args.kernel.now.config
          c.state-state.ensures.state
          (c.state-state.ensures.sound c.requires.running)).sound.counted.round
          c.requires.limit
          c.in-Err.stop round.work round.plays round.until round.grew;
      limited = λ limit allowed. some_err (record config { rounds = limit }) s s' b b'
          (g.W.Workers.tally c.args.workers.now) (g.W.Workers.tally c.run_round.new.workers)
          (between_here c.args.kernel.now.state c.state-state.result.now c.args.kernel.now.config
          c.state-state.ensures.state
          (c.state-state.ensures.sound c.requires.running)).sound.counted.round allowed
          c.in-Err.stop round.work round.plays round.until round.grew;
      round = tt;
      uncounted = c.in-Err.ensures.uncounted;
      marked = c.run_round.ensures.marked;
      told = tt;
      sound = c.run_round.ensures.sound;
      config = c.run_round.ensures.config;
      failed = c.run_round.ensures.failed ∙ ap is_err c.in-Err.is;
      follows = c.run_round.ensures.follows;
      fixed = c.run_round.ensures.fixed;
    }
