use Rattle.std.proofs.Common.{◌<◌, ◌≤◌, [], ◌∷◌, ◌∙◌, subst, arith}
use Rattle.std.proofs.lemmas.Result.{err_from_is_err_and}
use Rattle.kernel_calls.specs.Plays.{stopper}
use Rattle.kernel_calls.proofs.Playing.{plays_told}
use Rattle.kernel_calls.proofs.Staying.{stays-then}
use Rattle.group_rounds.specs.Parts.{RanPart, part_left, part_measure, turns_left}
use Rattle.group_rounds.proofs.Sound.{parts_passed, parts_on, parts_off, ready_then}
use Rattle.group_rounds.proofs.ServesLaws.{serves_done}
use Rattle.group_rounds.proofs.TurnLaws.{rest_begins, run_measure, goes_further, goes_out}
use Rattle.group_rounds.proofs.TurnLaws.{goes_over_budget, rest_stops}
use Rattle.group_rounds.proofs.part.finish.Goals as goal

pub loop-reason-init : goal.loop-reason-init
loop-reason-init g c = record {
  sound = c.begin.ensures.sound;
  live = c.begin.ensures.live;
  round = c.begin.ensures.round;
  count = c.begin.ensures.count;
  goes = λ q. rest_begins c.args.state.now c.begin.new.state c.args.tid c.begin.ensures.empties
      c.begin.ensures.budget q (g.B.Border.state c.args.border.now);
  ready = ready_then c.args.state.now c.begin.new.state c.args.tid c.requires.ready
      (c.begin.ensures.parts (c.args.tid ∷ []));
  parts = λ ts. c.begin.ensures.parts (c.args.tid ∷ ts);
  told = c.requires.told;
  follows = g.met.B.Border.reflexive c.args.border.now;
}

pub loop-reason-smaller : goal.loop-reason-smaller
loop-reason-smaller g c =
    let turn : part_measure c.take_turn.new.state c.args.tid < part_measure c.run.new.state
    c.args.tid = c.in_ok-take_turn.ensures.less c.if-not-branch.false in
    let run : part_measure c.run.new.state c.args.tid ≤ part_measure c.loop-reason.state
    c.args.tid = run_measure c.loop-reason.state c.run.new.state c.args.tid c.run.result
    c.run.ensures.ran in
    omega (arith, turn, run)

pub loop-reason-preserved : goal.loop-reason-preserved
loop-reason-preserved g c = record {
  sound = c.in_ok-take_turn.ensures.sound;
  live = c.in_ok-take_turn.ensures.live c.if-not-branch.false;
  round = stays-then c.take_turn.ensures.round
      (stays-then c.run.ensures.round c.loop-reason.invariant.round);
  count = c.in_ok-take_turn.ensures.count ∙ c.run.ensures.count ∙ c.loop-reason.invariant.count;
  goes = λ q.
      goes_further q c.args.tid c.args.state.now c.loop-reason.state c.run.new.state _ _
      c.run.result (c.loop-reason.invariant.goes q) c.run.ensures.ran c.take_turn.new.state _
      c.in_ok-take_turn.field-0 c.if-not-branch.false (c.in_ok-take_turn.ensures.plays q).goes;
  ready = ready_then c.loop-reason.state c.take_turn.new.state c.args.tid
      c.loop-reason.invariant.ready
      (λ parts. parts_on _ c.args.tid [] c.take_turn.new.state c.if-not-branch.false
      (c.in_ok-take_turn.ensures.parts [] (c.run.ensures.parts (c.args.tid ∷ []) parts)));
  parts = λ ts parts. parts_on _ c.args.tid ts c.take_turn.new.state c.if-not-branch.false
      (c.in_ok-take_turn.ensures.parts ts
      (c.run.ensures.parts (c.args.tid ∷ ts) (c.loop-reason.invariant.parts ts parts)));
  told = plays_told 0 (turns_left c.args.tid) (part_left c.args.tid c.in_ok-take_turn.field-0)
      c.run.new.state c.take_turn.new.state _ _ (c.in_ok-take_turn.ensures.plays 0).goes
      c.loop-reason.invariant.told;
  follows = g.met.B.Border.transitive _ _ _ c.loop-reason.invariant.follows
      c.take_turn.ensures.follows;
}

pub returns-then-not-branch-clause-serves : goal.returns-then-not-branch-clause-serves
returns-then-not-branch-clause-serves g c =
    let turn = c.in_ok-take_turn.ensures in
    let now = c.loop-reason.invariant in
    serves_done _ _ c.args.state.now c.take_turn.new.state _ _
    (λ q. goes_out q c.args.tid c.args.state.now c.loop-reason.state c.run.new.state _ _
    c.run.result (now.goes q) c.run.ensures.ran c.take_turn.new.state _
    c.in_ok-take_turn.field-0 c.if-not-branch.true (turn.plays q).goes) turn.sound
    (stays-then c.take_turn.ensures.round (stays-then c.run.ensures.round now.round))
    (turn.count ∙ c.run.ensures.count ∙ now.count)

pub returns-in_default-clause-serves : goal.returns-in_default-clause-serves
returns-in_default-clause-serves g c =
    let now = c.loop-reason.invariant in
    serves_done _ _ c.args.state.now c.run.new.state _ _
    (λ q. goes_over_budget q c.args.tid c.args.state.now c.loop-reason.state c.run.new.state _ _
    (now.goes q)
    (subst (RanPart c.loop-reason.state c.args.tid c.run.new.state) c.in_default.is
    c.run.ensures.ran)) c.run.ensures.sound (stays-then c.run.ensures.round now.round)
    (c.run.ensures.count ∙ now.count)

pub returns-in_err-take_turn-clause-serves : goal.returns-in_err-take_turn-clause-serves
returns-in_err-take_turn-clause-serves g c =
    let p = err_from_is_err_and c.from_residual.result c.from_residual.ensures.1 in
    let turn = c.in_err-take_turn.ensures in
    let now = c.loop-reason.invariant in
    rw (p.1, p.2) (record {
      plays = λ q. record {
        goes = tt;
        stops = rest_stops q c.args.tid c.args.state.now c.loop-reason.state c.run.new.state _ _
            c.run.result (now.goes q) c.run.ensures.ran _ (stopper c.in_err-take_turn.field-0.0)
            (turn.plays q).stops;
      };
      sound = tt;
      round = stays-then c.take_turn.ensures.round (stays-then c.run.ensures.round now.round);
      count = tt;
    })

-- ---- who has a part

pub take_turn-requires-clause-ready : goal.take_turn-requires-clause-ready
take_turn-requires-clause-ready g c =
    ready_then c.loop-reason.state c.run.new.state c.args.tid c.loop-reason.invariant.ready
    (c.run.ensures.parts (c.args.tid ∷ []))

pub returns-then-not-branch-clause-parts : goal.returns-then-not-branch-clause-parts
returns-then-not-branch-clause-parts g c = λ ts parts.
    parts_off _ c.args.tid ts c.take_turn.new.state c.if-not-branch.true
    (c.in_ok-take_turn.ensures.parts ts
    (c.run.ensures.parts (c.args.tid ∷ ts) (c.loop-reason.invariant.parts ts parts)))

pub returns-in_default-clause-parts : goal.returns-in_default-clause-parts
returns-in_default-clause-parts g c = λ ts parts.
    parts_passed c.run.new.state c.args.tid ts
    (c.run.ensures.parts (c.args.tid ∷ ts) (c.loop-reason.invariant.parts ts parts))

-- ---- the shim, at each way out

pub returns-in_default-clause-follows : goal.returns-in_default-clause-follows
returns-in_default-clause-follows g c = c.loop-reason.invariant.follows

pub returns-then-not-branch-clause-follows : goal.returns-then-not-branch-clause-follows
returns-then-not-branch-clause-follows g c =
    g.met.B.Border.transitive _ _ _ c.loop-reason.invariant.follows c.take_turn.ensures.follows

pub returns-in_err-take_turn-clause-follows : goal.returns-in_err-take_turn-clause-follows
returns-in_err-take_turn-clause-follows g c =
    g.met.B.Border.transitive _ _ _ c.loop-reason.invariant.follows c.take_turn.ensures.follows
