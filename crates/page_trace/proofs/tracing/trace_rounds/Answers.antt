use Rattle.std.proofs.Common.{◌≡◌, ◌≤◌, ◌+◌, ◌-◌, ◌∙◌, arith, ℕ, le_refl, le_trans, refl, sym}
use Rattle.std.proofs.lemmas.Result.{err_from_is_err_and}
use Rattle.dpg_run.proofs.RoundsRun.{some_none, some_over, with_nothing}
use Rattle.page_trace.proofs.Rounds.{cause_later, failed_as, in_limit, no_fault, numbered}
use Rattle.page_trace.proofs.Rounds.{other_fault, past_limit, rounds_end, rounds_over, rounds_stop}
use Rattle.page_trace.proofs.Rounds.{some_more, traced_more}
use Rattle.page_trace.proofs.Traced.{traced_none}
use Rattle.page_trace.proofs.tracing.trace_rounds.Given.{Over}
use Rattle.page_trace.proofs.tracing.trace_rounds.Goals.{After-trace_next}
use Rattle.page_trace.proofs.tracing.trace_rounds.Goals as goal

pub rounds_left-round-end-requires : goal.rounds_left-round-end-requires
rounds_left-round-end-requires g c = c.requires.running

pub trace_next-requires-clause-running : goal.trace_next-requires-clause-running
trace_next-requires-clause-running g c = λ κs alive. c.loop-round.invariant.running

pub trace_next-requires-clause-limit : goal.trace_next-requires-clause-limit
trace_next-requires-clause-limit g c = λ κs alive.
    in_limit c.args.kernel.now.config c.loop-round.kernel.config c.args.kernel.now.state.round
    c.loop-round.kernel.state.round c.loop-round._round c.rounds_left-round-end.result
    c.loop-round.invariant.config c.loop-round.invariant.round
    c.rounds_left-round-end.ensures.sound.sound.counted.round c.rounds_left-round-end.ensures.count
    c.loop-round-test.true

pub trace_next-requires-clause-told : goal.trace_next-requires-clause-told
trace_next-requires-clause-told g c = λ κs alive. c.loop-round.invariant.told

pub trace_next-requires-clause-marked : goal.trace_next-requires-clause-marked
trace_next-requires-clause-marked g c = λ κs alive. c.loop-round.invariant.marked

-- the round is one that the configuration leaves
allowed : (g : Over) (c : After-trace_next g)
    → c.loop-round.kernel.state.round ≤ c.args.kernel.now.config.rounds
allowed g c =
    in_limit c.args.kernel.now.config c.args.kernel.now.config c.args.kernel.now.state.round
    c.loop-round.kernel.state.round c.loop-round._round c.rounds_left-round-end.result refl
    c.loop-round.invariant.round c.rounds_left-round-end.ensures.sound.sound.counted.round
    c.rounds_left-round-end.ensures.count c.loop-round-test.true

left_past : (rounds start left i : ℕ) → left ≡ rounds - (start - 1) → left ≤ i
    → rounds - (start - 1) ≤ i
left_past rounds start left i is past = omega (arith, is, past)

pub loop-round-init : goal.loop-round-init
loop-round-init g c = record {
  some = some_none c.args.kernel.now.config c.args.kernel.now.state
      (g.B.Border.state c.args.border.now) (g.W.Workers.tally c.args.workers.now);
  traced = traced_none c.args.kernel.now.config c.args.kernel.now.state _;
  running = c.requires.running;
  round = sym (with_nothing _);
  sound = c.rounds_left-round-end.ensures.sound;
  config = refl;
  told = c.requires.told;
  marked = c.requires.marked;
  later = le_refl _;
  steady = refl;
  follows = g.met.B.Border.reflexive c.args.border.now;
  fixed = refl;
}

-- the rounds so far didn't go back
not_before : (start now i : ℕ) → now ≡ start + i → start ≤ now
not_before start now i is = omega (arith, is)

pub returns-in_err-ending : goal.returns-in_err-ending
returns-in_err-ending g c =
    let inv = c.loop-round.invariant in
    let next = c.trace_next.ensures in
    let p = err_from_is_err_and c.from_residual.result c.from_residual.ensures.1 in
    rw (p.1, p.2) (record {
      traces = rounds_stop c.args.kernel.now.config c.loop-round.kernel.config
          c.args.kernel.now.state c.loop-round.kernel.state c.trace_next.new.kernel.state _ _ _ _ _
          _ _ _ _ inv.config inv.some inv.traced
          c.rounds_left-round-end.ensures.sound.sound.counted.round
          (not_before _ _ _ inv.round)
          (allowed g (goal.at.returns-in_err-ending g c).After-trace_next)
          _ c.in_err-ending.ensures.traces;
      told = tt;
      cause = cause_later _ _ _ _ inv.later c.in_err-ending.ensures.cause;
      later = le_trans inv.later next.later;
      steady = λ other. c.in_err-ending.ensures.steady (other_fault _ _ _ other) ∙ inv.steady;
      sound = next.sound;
      config = next.config ∙ inv.config;
      failed = failed_as _ _ c.in_err-ending.ensures.failed;
      follows = g.met.B.Border.transitive _ _ _ inv.follows next.follows;
      fixed = next.fixed ∙ inv.fixed;
    })

pub returns-in-Some : goal.returns-in-Some
returns-in-Some g c =
    let inv = c.loop-round.invariant in
    let next = c.trace_next.ensures in
    record {
      traces = rounds_end c.args.kernel.now.config c.loop-round.kernel.config
          c.args.kernel.now.state c.loop-round.kernel.state c.trace_next.new.kernel.state _ _ _ _ _
          _ _ _ _ inv.config inv.some inv.traced
          c.rounds_left-round-end.ensures.sound.sound.counted.round
          (not_before _ _ _ inv.round) (allowed g (goal.at.returns-in-Some g c).After-trace_next)
          c.in_ok-ending.field-0 c.in-Some.ending c.in-Some.is c.in_ok-ending.ensures.traces;
      told = c.in_ok-ending.ensures.traces.running;
      cause = tt;
      later = le_trans inv.later next.later;
      steady = λ _. c.in_ok-ending.ensures.steady (no_fault _) ∙ inv.steady;
      sound = next.sound;
      config = next.config ∙ inv.config;
      failed = c.in_ok-ending.ensures.failed;
      follows = g.met.B.Border.transitive _ _ _ inv.follows next.follows;
      fixed = next.fixed ∙ inv.fixed;
    }

pub loop-round-preserved : goal.loop-round-preserved
loop-round-preserved g c =
    let inv = c.loop-round.invariant in
    let next = c.trace_next.ensures in
    let traces = c.in_ok-ending.ensures.traces in
    let here = allowed g (goal.at.loop-round-preserved g c).After-trace_next in
    record {
      some = some_more c.args.kernel.now.config c.loop-round.kernel.config
          c.args.kernel.now.state c.loop-round.kernel.state c.trace_next.new.kernel.state _ _ _ _ _
          _ _ _ _ inv.config inv.some inv.traced
          c.rounds_left-round-end.ensures.sound.sound.counted.round
          (not_before _ _ _ inv.round) here c.in_ok-ending.field-0 c.in_default.is traces;
      traced = traced_more c.args.kernel.now.config c.loop-round.kernel.config
          c.args.kernel.now.state c.loop-round.kernel.state c.trace_next.new.kernel.state _ _ _ _ _
          _ _ _ _ inv.config inv.some inv.traced
          c.rounds_left-round-end.ensures.sound.sound.counted.round
          (not_before _ _ _ inv.round) here c.in_ok-ending.field-0 c.in_default.is traces;
      running = c.in_ok-ending.ensures.failed;
      round = numbered c.in_ok-ending.field-0 _ _ _ _ c.in_default.is traces.round inv.round;
      sound = next.sound c.in_ok-ending.ensures.failed;
      config = next.config ∙ inv.config;
      told = traces.running;
      marked = c.in_ok-ending.ensures.marked;
      later = le_trans inv.later next.later;
      steady = c.in_ok-ending.ensures.steady (no_fault _) ∙ inv.steady;
      follows = g.met.B.Border.transitive _ _ _ inv.follows next.follows;
      fixed = next.fixed ∙ inv.fixed;
    }

pub returns : goal.returns
returns g c =
    let inv = c.loop-round.invariant in
    let begun = c.rounds_left-round-end.ensures.sound.sound.counted.round in
    let past = left_past _ _ _ _ c.rounds_left-round-end.ensures.count c.loop-round-test.false in
    record {
      traces = rounds_over c.args.kernel.now.config c.loop-round.kernel.config
          c.args.kernel.now.state c.loop-round.kernel.state _ _ _ _ _ _ c.loop-round._round
          c.limit_ending.result inv.config inv.some inv.traced begun inv.round past
          inv.sound.rounds
          (some_over c.loop-round.kernel.config c.loop-round.kernel.state _ _
          c.limit_ending.result (past_limit c.args.kernel.now.config c.loop-round.kernel.config
          _ _ _ inv.config inv.round begun past) c.limit_ending.ensures.ending);
      told = inv.told;
      cause = tt;
      later = inv.later;
      steady = λ _. inv.steady;
      sound = c.limit_ending.ensures.sound;
      config = inv.config;
      failed = inv.running;
      follows = inv.follows;
      fixed = inv.fixed;
    }
