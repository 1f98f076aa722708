use Rattle.std.proofs.Common.{◌≡◌, ◌∙◌, ap, sym, Some, ℕ, true}
use Rattle.debug_session.specs.Forwards.{step_pair}
use Rattle.debug_session.specs.Halts.{Halt}
use Rattle.debug_session.specs.Positions.{Position, position_after}
use Rattle.debug_session.specs.Sessions.{Pair}
use Rattle.debug_session.specs.declared.stops.Cause.TheVariants.{Plainly}
use Rattle.debug_client.specs.Births.{has_home}
use Rattle.debugger.specs.Halting.{whose_stop}
use Rattle.debugger.specs.Standing.{SessionView, here}
use Rattle.debugger.proofs.Onward.{halt_same, if_some, meant_at, stepped_idle, stepped_on}
use Rattle.debugger.proofs.Onward.{stepped_over, stepped_unmoved}
use Rattle.debugger.proofs.session.Session.halt_stepped.Goals as goal

pub stepped_pair-requires : goal.stepped_pair-requires
stepped_pair-requires c = record {
  running = c.requires.running;
  known = if_some c.args.before.now.mover (λ t. has_home c.args.self.now.births t ≡ true)
      c.in-Some.thread c.in-Some.is c.requires.known;
}

pub returns-in_default-clause-halt : goal.returns-in_default-clause-halt
returns-in_default-clause-halt c start s w is_start asked seen =
    sym (stepped_unmoved c.args.before.now s c.args.resumptions.now w seen
    (here c.args.self.now start) c.in_default.is)

pub returns-in_default-action-clause-halt : goal.returns-in_default-action-clause-halt
returns-in_default-action-clause-halt c start s w is_start asked seen =
    sym (stepped_idle c.args.before.now s c.args.resumptions.now w seen
    (here c.args.self.now start) c.in-Some.thread c.in-Some.is c.in_default-action.is)

pub returns-then-not-is_step_over-clause-halt : goal.returns-then-not-is_step_over-clause-halt
returns-then-not-is_step_over-clause-halt c start s w is_start asked seen =
    sym (stepped_on c.args.before.now s c.args.resumptions.now w seen
    (here c.args.self.now start) c.in-Some.thread c.in-Some-action.action c.in-Some.is
    c.in-Some-action.is
    (sym (c.is_step_over.ensures start is_start) ∙ c.if-not-is_step_over.true))

pub returns-clause-halt : goal.returns-clause-halt
returns-clause-halt c start s w is_start asked seen =
    let rs = c.args.resumptions.now in
    let at = here c.args.self.now start in
    let moves_are = c.moves-moves.ensures.moves
    ∙ ap (λ (k : SessionView). k.playback.moves) c.self.view_is in
    let there = ap (λ n. position_after n start) moves_are in
    ap (λ (h : Halt). Some h)
    (meant_at s rs start c.at.result c.moves-moves.result c.stepped_pair.result Plainly
    c.at.ensures
    ∙ halt_same 5 (position_after c.moves-moves.result start) at
    (whose_stop s rs (position_after c.moves-moves.result start) c.stepped_pair.result)
    (step_pair s rs at c.in-Some.thread) Plainly there
    (ap (λ (p : Position). whose_stop s rs p c.stepped_pair.result) there
    ∙ c.stepped_pair.ensures rs start s is_start asked))
    ∙ sym (stepped_over c.args.before.now s rs w seen at c.in-Some.thread c.in-Some-action.action
    c.in-Some.is c.in-Some-action.is
    (sym (c.is_step_over.ensures start is_start) ∙ c.if-not-is_step_over.false))
