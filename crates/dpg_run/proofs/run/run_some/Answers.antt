use Rattle.std.proofs.Common.{◌≡◌, ◌≤◌, ◌+◌, ◌∙◌, ap, arith, refl, subst, sym, ℕ, Err, Ok}
use Rattle.std.proofs.Common.{Option, Some}
use Rattle.std.specs.Prelude.{is_err}
use Rattle.std.proofs.lemmas.Result.{err_from_is_err_and}
use Rattle.dos_world.specs.declared.Ending.{Ending}
use Rattle.dpg_run.specs.GroupRuns.{PlaysSome, limited_by}
use Rattle.std.specs.Prelude.{min}
use Rattle.std.proofs.Common.{◌-◌}
use Rattle.dpg_run.proofs.RoundsRun.{between_here, counted_fewer, counted_more, counted_one, on_all}
use Rattle.dpg_run.proofs.RoundsRun.{on_next, on_nothing, some_none, some_over}
use Rattle.dos_world.specs.declared.Config.{Config}
use Rattle.dpg_run.specs.GroupRuns.{PlaysNext}
use Rattle.std.proofs.Common.{◌<◌}
use Rattle.dpg_run.proofs.RoundsRun.{limited_then, some_then, where_false, where_true, with_nothing}
use Rattle.dpg_run.proofs.run.run_some.Goals as goal

all_counted : (start now i rounds : ℕ) → now ≡ start + i → i ≤ rounds → rounds ≤ i
    → now ≡ start + rounds
all_counted start now i rounds is few past = omega (arith, is, few, past)

-- what a limit of these rounds leaves
over_limit : (n rounds run : ℕ) → rounds ≤ run → min n rounds ≤ run
over_limit n rounds run past = omega (arith, past)

within_limit_here : (start now i rounds limit : ℕ) → 1 ≤ start → now ≡ start + i → i < rounds
    → now - 1 < limit → now ≤ min (start - 1 + rounds) limit
within_limit_here start now i rounds limit first is less left = omega (arith, first, is, less, left)

is_fewer : (start now i rounds : ℕ) → now ≡ start + i → i < rounds → now < start + rounds
is_fewer start now i rounds is less = omega (arith, is, less)

pub run_next-requires-clause-running : goal.run_next-requires-clause-running
run_next-requires-clause-running g c = λ κs alive. c.loop-round.invariant.running

pub run_next-requires-clause-limit : goal.run_next-requires-clause-limit
run_next-requires-clause-limit g c = λ κs alive.
    let less = where_false c.is_over.result _ _ c.if-is_over.false c.is_over.ensures in
    omega (arith, less)

pub run_next-requires-clause-told : goal.run_next-requires-clause-told
run_next-requires-clause-told g c = λ κs alive. c.loop-round.invariant.told

pub loop-round-init : goal.loop-round-init
loop-round-init g c = record {
  some = some_none c.args.kernel.now.config c.args.kernel.now.state
      (g.B.Border.state c.args.border.now) (g.W.Workers.tally c.args.workers.now);
  limited = some_none
      (limited_by (c.args.kernel.now.state.round - 1 + c.args.rounds) c.args.kernel.now.config)
      c.args.kernel.now.state (g.B.Border.state c.args.border.now)
      (g.W.Workers.tally c.args.workers.now);
  on = on_nothing c.args.kernel.now.config c.args.kernel.now.state
      (g.B.Border.state c.args.border.now);
  running = c.requires.running;
  round = sym (with_nothing _);
  few = omega arith;
  marked = refl;
  sound = between_here c.args.kernel.now.state c.state-state.result.now c.args.kernel.now.config
      c.state-state.ensures.state (c.state-state.ensures.sound c.requires.running);
  config = refl;
  told = c.requires.told;
  follows = g.met.B.Border.reflexive c.args.border.now;
  fixed = refl;
}

-- no round is left
pub returns-then-is_over : goal.returns-then-is_over
returns-then-is_over g c =
    let inv = c.loop-round.invariant in
    record {
      some = some_then c.args.kernel.now.config c.loop-round.kernel.config
          (Ok (Some c.limit_ending.result)) c.args.kernel.now.state c.loop-round.kernel.state
          c.loop-round.kernel.state _ _ _ _ _ _ inv.config inv.some
          (some_over c.loop-round.kernel.config c.loop-round.kernel.state _ _
          c.limit_ending.result
          (where_true c.is_over.result _ _ c.if-is_over.true c.is_over.ensures)
          c.limit_ending.ensures.ending);
      limited = limited_then (c.args.kernel.now.state.round - 1 + c.args.rounds)
          c.args.kernel.now.config c.loop-round.kernel.config (Ok (Some c.limit_ending.result))
          c.args.kernel.now.state c.loop-round.kernel.state c.loop-round.kernel.state _ _ _ _ _ _
          inv.config inv.limited
          (some_over (limited_by (c.args.kernel.now.state.round - 1 + c.args.rounds)
          c.loop-round.kernel.config) c.loop-round.kernel.state _ _ c.limit_ending.result
          (over_limit (c.args.kernel.now.state.round - 1 + c.args.rounds)
          c.loop-round.kernel.config.rounds (c.loop-round.kernel.state.round - 1)
          (where_true c.is_over.result _ _ c.if-is_over.true c.is_over.ensures))
          c.limit_ending.ensures.ending);
      counted = is_fewer c.args.kernel.now.state.round c.loop-round.kernel.state.round
          c.loop-round._round c.args.rounds inv.round c.loop-round-test.true;
      on = tt;
      marked = inv.marked;
      told = inv.told;
      sound = c.limit_ending.ensures.sound;
      config = inv.config;
      failed = inv.running;
      follows = inv.follows;
      fixed = inv.fixed;
    }

pub returns-in_err-ending : goal.returns-in_err-ending
returns-in_err-ending g c =
    let inv = c.loop-round.invariant in
    let p = err_from_is_err_and c.from_residual.result c.from_residual.ensures.1 in
    rw (p.1, p.2) (record {
      some = some_then c.args.kernel.now.config c.loop-round.kernel.config (Err _)
          c.args.kernel.now.state c.loop-round.kernel.state c.run_next.new.kernel.state _ _ _ _ _ _
          inv.config inv.some c.in_err-ending.ensures.some;
      limited = limited_then (c.args.kernel.now.state.round - 1 + c.args.rounds)
          c.args.kernel.now.config c.loop-round.kernel.config (Err _) c.args.kernel.now.state
          c.loop-round.kernel.state c.run_next.new.kernel.state _ _ _ _ _ _ inv.config inv.limited
          (c.in_err-ending.ensures.limited _
          (within_limit_here c.args.kernel.now.state.round c.loop-round.kernel.state.round
          c.loop-round._round c.args.rounds c.loop-round.kernel.config.rounds
          (between_here c.args.kernel.now.state c.state-state.result.now c.args.kernel.now.config
          c.state-state.ensures.state
          (c.state-state.ensures.sound c.requires.running)).sound.counted.round inv.round
          c.loop-round-test.true
          (where_false c.is_over.result _ _ c.if-is_over.false c.is_over.ensures)));
      counted = tt;
      on = tt;
      marked = c.run_next.ensures.marked ∙ inv.marked;
      told = tt;
      sound = c.run_next.ensures.sound;
      config = c.run_next.ensures.config ∙ inv.config;
      failed = c.run_next.ensures.failed ∙ ap is_err c.in_err-ending.was;
      follows = g.met.B.Border.transitive _ _ _ inv.follows c.run_next.ensures.follows;
      fixed = c.run_next.ensures.fixed ∙ inv.fixed;
    })

pub returns-in-Some : goal.returns-in-Some
returns-in-Some g c =
    let inv = c.loop-round.invariant in
    record {
      some = subst (λ (ended : Option Ending). PlaysSome c.args.kernel.now.config (Ok ended)
          c.args.kernel.now.state (g.B.Border.state c.args.border.now) c.run_next.new.kernel.state
          (g.B.Border.state c.run_next.new.border) (g.W.Workers.tally c.args.workers.now)
          (g.W.Workers.tally c.run_next.new.workers)) c.in-Some.is
          (some_then c.args.kernel.now.config c.loop-round.kernel.config
          (Ok c.in_ok-ending.field-0) c.args.kernel.now.state c.loop-round.kernel.state
          c.run_next.new.kernel.state _ _ _ _ _ _ inv.config inv.some
          c.in_ok-ending.ensures.some);
      limited = subst (λ (ended : Option Ending). PlaysSome
          (limited_by (c.args.kernel.now.state.round - 1 + c.args.rounds) c.args.kernel.now.config)
          (Ok ended) c.args.kernel.now.state (g.B.Border.state c.args.border.now)
          c.run_next.new.kernel.state (g.B.Border.state c.run_next.new.border)
          (g.W.Workers.tally c.args.workers.now) (g.W.Workers.tally c.run_next.new.workers))
          c.in-Some.is
          (limited_then (c.args.kernel.now.state.round - 1 + c.args.rounds)
          c.args.kernel.now.config c.loop-round.kernel.config (Ok c.in_ok-ending.field-0)
          c.args.kernel.now.state c.loop-round.kernel.state c.run_next.new.kernel.state _ _ _ _ _ _
          inv.config inv.limited
          (c.in_ok-ending.ensures.limited _
          (within_limit_here c.args.kernel.now.state.round c.loop-round.kernel.state.round
          c.loop-round._round c.args.rounds c.loop-round.kernel.config.rounds
          (between_here c.args.kernel.now.state c.state-state.result.now c.args.kernel.now.config
          c.state-state.ensures.state
          (c.state-state.ensures.sound c.requires.running)).sound.counted.round inv.round
          c.loop-round-test.true
          (where_false c.is_over.result _ _ c.if-is_over.false c.is_over.ensures))));
      counted = counted_fewer c.in_ok-ending.field-0 _ c.loop-round._round c.args.rounds
          c.args.kernel.now.state.round c.loop-round.kernel.state.round
          c.run_next.new.kernel.state.round c.in-Some.is inv.round c.loop-round-test.true
          (counted_one c.in_ok-ending.field-0 c.loop-round.kernel.state.round
          c.run_next.new.kernel.state.round c.in_ok-ending.ensures.round);
      on = tt;
      marked = c.run_next.ensures.marked ∙ inv.marked;
      told = c.in_ok-ending.ensures.told;
      sound = c.run_next.ensures.sound;
      config = c.run_next.ensures.config ∙ inv.config;
      failed = c.run_next.ensures.failed ∙ ap is_err c.in_ok-ending.was;
      follows = g.met.B.Border.transitive _ _ _ inv.follows c.run_next.ensures.follows;
      fixed = c.run_next.ensures.fixed ∙ inv.fixed;
    }

pub loop-round-preserved : goal.loop-round-preserved
loop-round-preserved g c =
    let inv = c.loop-round.invariant in
    let running = c.run_next.ensures.failed ∙ ap is_err c.in_ok-ending.was in
    record {
      some = subst (λ (ended : Option Ending). PlaysSome c.args.kernel.now.config (Ok ended)
          c.args.kernel.now.state (g.B.Border.state c.args.border.now) c.run_next.new.kernel.state
          (g.B.Border.state c.run_next.new.border) (g.W.Workers.tally c.args.workers.now)
          (g.W.Workers.tally c.run_next.new.workers)) c.in_default.is
          (some_then c.args.kernel.now.config c.loop-round.kernel.config
          (Ok c.in_ok-ending.field-0) c.args.kernel.now.state c.loop-round.kernel.state
          c.run_next.new.kernel.state _ _ _ _ _ _ inv.config inv.some
          c.in_ok-ending.ensures.some);
      limited = subst (λ (ended : Option Ending). PlaysSome
          (limited_by (c.args.kernel.now.state.round - 1 + c.args.rounds) c.args.kernel.now.config)
          (Ok ended) c.args.kernel.now.state (g.B.Border.state c.args.border.now)
          c.run_next.new.kernel.state (g.B.Border.state c.run_next.new.border)
          (g.W.Workers.tally c.args.workers.now) (g.W.Workers.tally c.run_next.new.workers))
          c.in_default.is
          (limited_then (c.args.kernel.now.state.round - 1 + c.args.rounds)
          c.args.kernel.now.config c.loop-round.kernel.config (Ok c.in_ok-ending.field-0)
          c.args.kernel.now.state c.loop-round.kernel.state c.run_next.new.kernel.state _ _ _ _ _ _
          inv.config inv.limited
          (c.in_ok-ending.ensures.limited _
          (within_limit_here c.args.kernel.now.state.round c.loop-round.kernel.state.round
          c.loop-round._round c.args.rounds c.loop-round.kernel.config.rounds
          (between_here c.args.kernel.now.state c.state-state.result.now c.args.kernel.now.config
          c.state-state.ensures.state
          (c.state-state.ensures.sound c.requires.running)).sound.counted.round inv.round
          c.loop-round-test.true
          (where_false c.is_over.result _ _ c.if-is_over.false c.is_over.ensures))));
      on = on_next c.args.kernel.now.config c.in_ok-ending.field-0 c.loop-round._round
          c.args.kernel.now.state c.loop-round.kernel.state c.run_next.new.kernel.state _ _ _
          c.in_default.is inv.on
          (subst (λ (k : Config). PlaysNext k (Ok c.in_ok-ending.field-0)
          c.loop-round.kernel.state (g.B.Border.state c.loop-round.border)
          c.run_next.new.kernel.state (g.B.Border.state c.run_next.new.border)) inv.config
          c.in_ok-ending.ensures.plays);
      running = running;
      round = counted_more c.in_ok-ending.field-0 c.loop-round._round
          c.args.kernel.now.state.round c.loop-round.kernel.state.round
          c.run_next.new.kernel.state.round c.in_default.is inv.round
          (counted_one c.in_ok-ending.field-0 c.loop-round.kernel.state.round
          c.run_next.new.kernel.state.round c.in_ok-ending.ensures.round);
      few = omega (arith, c.loop-round-test.true);
      marked = c.run_next.ensures.marked ∙ inv.marked;
      sound = c.run_next.ensures.sound running;
      config = c.run_next.ensures.config ∙ inv.config;
      told = c.in_ok-ending.ensures.told;
      follows = g.met.B.Border.transitive _ _ _ inv.follows c.run_next.ensures.follows;
      fixed = c.run_next.ensures.fixed ∙ inv.fixed;
    }

pub returns : goal.returns
returns g c =
    let inv = c.loop-round.invariant in
    record {
      some = inv.some;
      limited = inv.limited;
      counted = all_counted c.args.kernel.now.state.round c.loop-round.kernel.state.round
          c.loop-round._round c.args.rounds inv.round inv.few c.loop-round-test.false;
      on = on_all c.args.kernel.now.config c.loop-round._round c.args.rounds
          c.args.kernel.now.state c.loop-round.kernel.state _ _ inv.few c.loop-round-test.false
          inv.on;
      marked = inv.marked;
      told = inv.told;
      sound = λ _. inv.sound;
      config = inv.config;
      failed = inv.running;
      follows = inv.follows;
      fixed = inv.fixed;
    }
