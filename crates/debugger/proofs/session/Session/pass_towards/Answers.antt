use Rattle.std.proofs.Common.{ap, sym, ◌∙◌}
use Rattle.debug_session.specs.Positions.{position_after}
use Rattle.debugger.specs.Standing.{SessionView}
use Rattle.debugger.proofs.SilentTowards.{none_passed, reached_passed, shown_passed}
use Rattle.debugger.proofs.session.Session.pass_towards.Goals as goal

pub returns-then-is_shown-clause-reached : goal.returns-then-is_shown-clause-reached
returns-then-is_shown-clause-reached c start is_start =
    let ran = c.run_on-silent.ensures in
    reached_passed c.args.self.now c.run_on-silent.new.self _ _ c.run_on-silent.result ran.moves
    start (ran.silent start is_start) c.args.round c.args.made c.most_towards-most.result ran.most
    (c.most_towards-most.ensures start is_start)

pub returns-then-is_shown-clause-peopled : goal.returns-then-is_shown-clause-peopled
returns-then-is_shown-clause-peopled c start s is_start asked before =
    let ran = c.run_on-silent.ensures in
    ap (λ n. position_after n start)
    (c.moves.ensures.moves ∙ ap (λ (k : SessionView). k.playback.moves) c.self.view_is)
    ∙ shown_passed c.args.self.now c.run_on-silent.new.self _ _ c.run_on-silent.result ran.moves
    start (ran.silent start is_start) s
    (sym (c.is_somebody_shown-is_shown.ensures start s is_start asked) ∙ c.if-is_shown.true)

pub returns-clause-reached : goal.returns-clause-reached
returns-clause-reached c start is_start =
    let ran = c.run_on-silent.ensures in
    reached_passed c.args.self.now c.run_on-silent.new.self _ _ c.run_on-silent.result ran.moves
    start (ran.silent start is_start) c.args.round c.args.made c.most_towards-most.result ran.most
    (c.most_towards-most.ensures start is_start)

pub returns-clause-peopled : goal.returns-clause-peopled
returns-clause-peopled c start s is_start asked before =
    let ran = c.run_on-silent.ensures in
    let none = sym (c.is_somebody_shown-is_shown.ensures start s is_start asked)
    ∙ c.if-is_shown.false in
    none_passed c.args.self.now c.run_on-silent.new.self _ _ c.run_on-silent.result ran.moves
    start (ran.silent start is_start) s none (position_after c.args.peopled start) (before none)
