use Rattle.std.proofs.Common.{ap, sym, ◌∙◌, refl, arith}
use Rattle.debug_session.specs.Positions.{position_after}
use Rattle.debugger.specs.Standing.{SessionView, here}
use Rattle.debugger.proofs.Onward.{last_stays, noted_there, same_there, was_stays}
use Rattle.debugger.proofs.session.Session.with_here.Goals as goal

pub returns-then-is_anybody_there-clause-noted : goal.returns-then-is_anybody_there-clause-noted
returns-then-is_anybody_there-clause-noted c start s is_start asked =
    noted_there s c.args.resumptions.now start c.args.way (here c.args.self.now start)
    c.moves.result
    (ap (λ n. position_after n start)
    (c.moves.ensures.moves ∙ ap (λ (k : SessionView). k.playback.moves) c.self.view_is))
    (sym (c.is_anybody_there.ensures start s is_start asked) ∙ c.if-is_anybody_there.true)

pub returns-then-is_anybody_there-clause-same : goal.returns-then-is_anybody_there-clause-same
returns-then-is_anybody_there-clause-same c start s is_start asked =
    same_there s c.args.resumptions.now start c.args.way (here c.args.self.now start)
    c.moves.result
    (ap (λ n. position_after n start)
    (c.moves.ensures.moves ∙ ap (λ (k : SessionView). k.playback.moves) c.self.view_is))
    (sym (c.is_anybody_there.ensures start s is_start asked) ∙ c.if-is_anybody_there.true)

pub returns-clause-noted : goal.returns-clause-noted
returns-clause-noted c start s is_start asked =
    let none = sym (c.is_anybody_there.ensures start s is_start asked)
    ∙ c.if-is_anybody_there.false in
    record {
      last = last_stays s c.args.resumptions.now c.args.way.was_there
          (position_after c.args.way.last start) (here c.args.self.now start) none;
      there = was_stays s c.args.resumptions.now c.args.way.was_there
          (position_after c.args.way.last start) (here c.args.self.now start) none;
    }

pub returns-clause-same : goal.returns-clause-same
returns-clause-same c start s is_start asked = refl
