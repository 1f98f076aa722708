use Rattle.std.proofs.Common.{◌≡◌, ◌≤◌, ◌+◌, ◌-◌, ◌∙◌, ap, arith, subst, ℕ, None, Ok, Option, Some}
use Rattle.std.specs.Prelude.{is_err}
use Rattle.dos_world.specs.declared.Config.{Config}
use Rattle.dos_world.specs.declared.Ending.{Ending}
use Rattle.dos_io.specs.Borders.{BorderState}
use Rattle.kernel_calls.specs.declared.state.State.{State}
use Rattle.dpg_run.specs.GroupRuns.{IsCountedIn, PlaysSome}
use Rattle.dpg_run.proofs.RoundsRun.{all_err, all_ok, between_here, counted_none, runs_stopped}
use Rattle.dpg_run.proofs.RoundsRun.{some_as, some_over, some_then}
use Rattle.dpg_run.proofs.run.run_over.Goals as goal

-- as many rounds as there may be leave none
none_left : (config here read : Config) (start now : ℕ) → read ≡ config → here ≡ config
    → 1 ≤ start → now ≡ start + read.rounds → here.rounds ≤ now - 1
none_left config here read start now same kept first counted =
    let r = ap (λ (c : Config). c.rounds) same in
    let h = ap (λ (c : Config). c.rounds) kept in
    omega (arith, r, h, first, counted)

pub run_some-requires-clause-running : goal.run_some-requires-clause-running
run_some-requires-clause-running g c = λ κs alive. c.requires.running

pub run_some-requires-clause-told : goal.run_some-requires-clause-told
run_some-requires-clause-told g c = λ κs alive. c.requires.told

pub returns-in-Err : goal.returns-in-Err
returns-in-Err g c = record {
  runs = runs_stopped c.args.kernel.now.config c.args.kernel.now.state
      c.run_some.new.kernel.state _ _ c.in-Err.stop c.run_some.new.kernel.failed _ _
      (c.run_some.ensures.failed ∙ ap is_err c.in-Err.is)
      (all_err c.args.kernel.now.config _ c.args.kernel.now.state c.run_some.new.kernel.state _ _
      _ _ c.in-Err.ensures.some);
  sound = c.run_some.ensures.sound;
  limit = tt;
  config = c.run_some.ensures.config;
  follows = c.run_some.ensures.follows;
  fixed = c.run_some.ensures.fixed;
}

pub returns-in-Ok-Some-clause-runs : goal.returns-in-Ok-Some-clause-runs
returns-in-Ok-Some-clause-runs g c =
    let config = c.args.kernel.now.config in
    let s = c.args.kernel.now.state in
    let s' = c.run_some.new.kernel.state in
    let b = g.B.Border.state c.args.border.now in
    let b' = g.B.Border.state c.run_some.new.border in
    let t = g.W.Workers.tally c.args.workers.now in
    let t' = g.W.Workers.tally c.run_some.new.workers in
    c.tell_end.ensures.runs config s b t t'
    (c.run_some.ensures.failed ∙ ap is_err c.in-Ok-Some.is)
    (all_ok config c.in-Ok-Some.ending s s' b b' t t'
    (some_as config s s' b b' t t' _ _ c.in-Ok-Some.field-0-is c.in-Ok-Some.ensures.some))

pub returns-in-Ok-None-clause-runs : goal.returns-in-Ok-None-clause-runs
returns-in-Ok-None-clause-runs g c =
    let config = c.args.kernel.now.config in
    let here = c.run_some.new.kernel.config in
    let s = c.args.kernel.now.state in
    let s' = c.run_some.new.kernel.state in
    let b = g.B.Border.state c.args.border.now in
    let b' = g.B.Border.state c.run_some.new.border in
    let t = g.W.Workers.tally c.args.workers.now in
    let t' = g.W.Workers.tally c.run_some.new.workers in
    let some = c.in-Ok-None.ensures in
    let first = (between_here s c.state-state.result.now config c.state-state.ensures.state
    (c.state-state.ensures.sound c.requires.running)).sound.counted.round in
    c.tell_end-in-Ok-None.ensures.runs config s b t t'
    (c.run_some.ensures.failed ∙ ap is_err c.in-Ok-None.is)
    (all_ok config c.limit_ending-ending.result s s' b b' t t'
    (some_then config here (Ok (Some c.limit_ending-ending.result)) s s' s' b b' b' t t' t'
    c.run_some.ensures.config
    (some_as config s s' b b' t t' _ _ c.in-Ok-None.field-0-is some.some)
    (some_over here s' b' t' c.limit_ending-ending.result
    (none_left config here c.config-rounds.result s.round s'.round c.config-rounds.ensures
    c.run_some.ensures.config first
    (counted_none c.in-Ok-None.field-0 c.config-rounds.result.rounds s.round s'.round
    c.in-Ok-None.field-0-is some.counted)) c.limit_ending-ending.ensures.ending)))
