use Rattle.std.proofs.Common.{◌≡◌, ◌≤◌, ◌<◌, ◌+◌, ◌-◌, ◌∙◌, ap, arith, subst, sym, ℕ, None, Option}
use Rattle.std.proofs.Common.{Some}
use Rattle.std.specs.Prelude.{is_err}
use Rattle.dos_world.specs.declared.Ending.{Ending}
use Rattle.dos_world.specs.declared.Config.{Config}
use Rattle.dos_io.specs.Borders.{BorderState}
use Rattle.kernel_calls.specs.declared.state.State.{State}
use Rattle.kernel_calls.specs.declared.state.RunStop.{RunStop}
use Rattle.std.specs.Prelude.{Result}
use Rattle.dpg_run.specs.GroupRuns.{IsCountedIn, PlaysSome, limited_by}
use Rattle.dpg_run.specs.Reaching.{HasRunOn, RunsOn}
use Rattle.dpg_run.proofs.RoundsRun.{all_err, all_ok, between_here, counted_none, on_rounds, ran_to}
use Rattle.dpg_run.proofs.RoundsRun.{runs_stopped, some_as}
use Rattle.dpg_run.proofs.reaching.run_until.Goals as goal

-- fewer rounds were run than there were to be
fewer : (ended : Option Ending) (ending : Ending) (start now read round : ℕ)
    → ended ≡ Some ending → read ≡ start - 1 → 1 ≤ start → 1 ≤ now → start - 1 ≤ round
    → IsCountedIn ended (round - read) start now → now - 1 < round
fewer None ending start now read round is reads first begun behind counted = absurd cc
fewer (Some other) ending start now read round is reads first begun behind counted =
    omega (arith, reads, first, begun, behind, counted)

-- up to that round
same_limit : (start read round : ℕ) → read ≡ start - 1 → start - 1 ≤ round
    → start - 1 + (round - read) ≡ round
same_limit start read round reads behind = omega (arith, reads, behind)

limited_at : (n m : ℕ) (config : Config) (result : Result (Option Ending) RunStop) (s s' : State)
    (b b' : BorderState) (t t' : ℕ) → n ≡ m
    → PlaysSome (limited_by n config) result s b s' b' t t'
    → PlaysSome (limited_by m config) result s b s' b' t t'
limited_at n m config result s s' b b' t t' is h =
    subst (λ k. PlaysSome (limited_by k config) result s b s' b' t t') is h

pub returns-in-Ok-clause-reaches : goal.returns-in-Ok-clause-reaches
returns-in-Ok-clause-reaches g c =
    let config = c.args.kernel.now.config in
    let s = c.args.kernel.now.state in
    let s' = c.run_some.new.kernel.state in
    let b = g.B.Border.state c.args.border.now in
    let b' = g.B.Border.state c.run_some.new.border in
    let t = g.W.Workers.tally c.args.workers.now in
    let t' = g.W.Workers.tally c.run_some.new.workers in
    let some = c.in-Ok-Some.ensures in
    let upto = limited_by c.args.round config in
    let running = c.run_some.ensures.failed ∙ ap is_err c.in-Ok-Some.is in
    let first = (between_here s c.state-state.result.now config c.state-state.ensures.state
    (c.state-state.ensures.sound c.requires.running)).sound.counted.round in (
      record {
        runs = c.in-Ok.ensures.runs config s b t t' running
            (all_ok config c.in-Ok-Some.ending s s' b b' t t'
            (some_as config s s' b b' t t' _ _ c.in-Ok-Some.field-0-is some.some));
        limited = c.in-Ok.ensures.runs upto s b t t' running
            (all_ok upto c.in-Ok-Some.ending s s' b b' t t'
            (some_as upto s s' b b' t t' _ _ c.in-Ok-Some.field-0-is
            (limited_at _ _ config _ s s' b b' t t' (same_limit s.round c.rounds.result c.args.round
            c.rounds.ensures c.requires.behind) some.limited)));
      },
      fewer c.in-Ok-Some.field-0 c.in-Ok-Some.ending s.round s'.round c.rounds.result c.args.round
          c.in-Ok-Some.field-0-is c.rounds.ensures first
          (c.run_some.ensures.sound running).sound.counted.round c.requires.behind some.counted,
    )

pub returns-in-Err-tell_end-clause-reaches : goal.returns-in-Err-tell_end-clause-reaches
returns-in-Err-tell_end-clause-reaches g c =
    let config = c.args.kernel.now.config in
    let s = c.args.kernel.now.state in
    let s' = c.run_some.new.kernel.state in
    let b = g.B.Border.state c.args.border.now in
    let b' = g.B.Border.state c.run_some.new.border in
    let t = g.W.Workers.tally c.args.workers.now in
    let t' = g.W.Workers.tally c.run_some.new.workers in
    let upto = limited_by c.args.round config in
    let some = c.in-Ok-Some.ensures in
    let running = c.run_some.ensures.failed ∙ ap is_err c.in-Ok-Some.is in
    record {
      runs = c.in-Err-tell_end.ensures.runs config s b t t' running
          (all_ok config c.in-Ok-Some.ending s s' b b' t t'
          (some_as config s s' b b' t t' _ _ c.in-Ok-Some.field-0-is some.some));
      limited = c.in-Err-tell_end.ensures.runs upto s b t t' running
          (all_ok upto c.in-Ok-Some.ending s s' b b' t t'
          (some_as upto s s' b b' t t' _ _ c.in-Ok-Some.field-0-is
          (limited_at _ _ config _ s s' b b' t t' (same_limit s.round c.rounds.result c.args.round
          c.rounds.ensures c.requires.behind) some.limited)));
    }

pub returns-in-Ok-None-clause-reaches : goal.returns-in-Ok-None-clause-reaches
returns-in-Ok-None-clause-reaches g c =
    let config = c.args.kernel.now.config in
    let s = c.args.kernel.now.state in
    let s' = c.run_some.new.kernel.state in
    let b = g.B.Border.state c.args.border.now in
    let b' = g.B.Border.state c.run_some.new.border in
    let t = g.W.Workers.tally c.args.workers.now in
    let t' = g.W.Workers.tally c.run_some.new.workers in
    let some = c.in-Ok-None.ensures in
    let ran = some_as config s s' b b' t t' _ _ c.in-Ok-None.field-0-is some.some in
    let rounds = c.args.round - c.rounds.result in
    let counted = counted_none c.in-Ok-None.field-0 rounds s.round s'.round
    c.in-Ok-None.field-0-is some.counted in
    let left = ap (λ (n : ℕ). c.args.round - n) c.rounds.ensures in
    rw (sym left) (record {
      ran = ran_to config rounds s s' b b' t t' ran
          (on_rounds config c.in-Ok-None.field-0 rounds s s' b b'
          c.in-Ok-None.field-0-is some.on) counted some.told;
      stands = (ran.plays 0).goes.stands;
      failed_is = c.run_some.ensures.failed ∙ ap is_err c.in-Ok-None.is;
    })

pub returns-in-Err-clause-reaches : goal.returns-in-Err-clause-reaches
returns-in-Err-clause-reaches g c =
    let config = c.args.kernel.now.config in
    let upto = limited_by c.args.round config in
    let s = c.args.kernel.now.state in
    let s' = c.run_some.new.kernel.state in
    let failed = c.run_some.ensures.failed ∙ ap is_err c.in-Err.is in
    record {
      runs = runs_stopped config s s' _ _ c.in-Err.stop c.run_some.new.kernel.failed _ _ failed
          (all_err config _ s s' _ _ _ _ c.in-Err.ensures.some);
      limited = runs_stopped upto s s' _ _ c.in-Err.stop c.run_some.new.kernel.failed _ _ failed
          (all_err upto _ s s' _ _ _ _
          (limited_at _ _ config _ s s' _ _ _ _ (same_limit s.round c.rounds.result c.args.round
          c.rounds.ensures c.requires.behind) c.in-Err.ensures.limited));
    }
